-- A place among the lines of a text: the start, the line there, one line on, the end.
use Rattle.std.proofs.Common.{◌≡◌, ℕ, zero, suc, ◌+◌, ◌<◌, ◌≤◌, List, [], ◌∷◌, ◌++◌, map, length, get_or, take, drop, sym, refl, ap, ◌∙◌, subst, arith, length-append, length-drop, take-append-drop}
use mathlib.Core.Logic.{∥∥₁_elim, ∥∥₁_map}
use native.Mathlib.Bridge.{le_prop}
use lib.ListN.{length-map}
use Rattle.std.proofs.lemmas.List.{append_assoc, drop_at, drop-map, drop_all, drop_more, take_more, length-take-le}
use Rattle.irv.specs.Ballots.{Slate, slate}
use Rattle.irv.proofs.Unique.{groups_set}
use Rattle.ballot.specs.Values.{group_value}
use Rattle.forms.specs.Decoded.{decoded}
use Rattle.forms.specs.Texts.{Good}
use Rattle.forms.specs.Written.{Form, Line, line_bytes, text_of, group_of}
use Rattle.forms.proofs.Outcome.{fit_goods, Goods, good_not_refused}
use Rattle.forms.proofs.Reading.{one_line, some_bytes}
use Rattle.ballot_line.specs.Faults.{TakesGroup, FaultyLine}
use Rattle.ballot_text.specs.Readings.{Reading}
use Rattle.ballot_text.specs.Sound.{reading_groups}
use Rattle.ballot_line.specs.declared.judge.GroupRead.{GroupRead}
use Rattle.ballot_line.specs.declared.judge.LineFault.{LineFault}
use Rattle.ballot_text.proofs.Opening.{lines_le}

pub text_append : (ls ms : List Line) → text_of (ls ++ ms) ≡ text_of ls ++ text_of ms
text_append [] ms = refl
text_append (l ∷ ls) ms = ap (λ x. line_bytes l ++ x) (text_append ls ms) ∙ sym (append_assoc (line_bytes l) (text_of ls) (text_of ms))

-- what is left of the text is the text of the lines that are left
pub left_text : (bs : List ℕ) (ls : List Line) (place at : ℕ) → bs ≡ text_of ls → at ≡ length (text_of (take place ls)) → drop at bs ≡ text_of (drop place ls)
left_text bs ls place at whole at_is =
    ap (drop at) (whole ∙ ap text_of (sym (take-append-drop place ls)) ∙ text_append (take place ls) (drop place ls)) ∙ drop_at (text_of (take place ls)) (text_of (drop place ls)) at (sym at_is)

-- a line in front of those that are left, and what is left behind it
pub record Next (ls : List Line) (place : ℕ) : Type 0 where
  pub line : Line
  pub later : List Line
  pub split : drop place ls ≡ line ∷ later
  pub inside : place < length ls
  pub passed : take (place + 1) ls ≡ take place ls ++ (line ∷ [])
  pub behind : drop (place + 1) ls ≡ later

pub next_line : (ls : List Line) (place : ℕ) (l : Line) (later : List Line) → drop place ls ≡ l ∷ later → Next ls place
next_line ls place l later split =
    let inside : place < length ls = omega (arith, ap length split, length-drop place ls) in
    let two : get_or ls place l ∷ drop (place + 1) ls ≡ l ∷ later = sym (drop_more ls place l inside) ∙ split in
    let first : get_or ls place l ≡ l = cc in
    record { line = l; later = later; split = split; inside = inside; passed = take_more ls place l inside ∙ ap (λ x. take place ls ++ (x ∷ [])) first; behind = cc }

pub good_at : (f : Form) (s : Slate) (sum : ℕ) (ls : List Line) (place : ℕ) (l : Line) (later : List Line) → Goods f s sum ls → drop place ls ≡ l ∷ later → Good f s 0 l
good_at f s sum [] zero l later goods e = absurd (omega (arith, ap length e))
good_at f s sum [] (suc place) l later goods e = absurd (omega (arith, ap length e))
good_at f s sum (m ∷ ls) zero l later goods e =
    let same : m ≡ l = cc in
    subst (Good f s 0) same (record { formed = goods.0.formed; counts = (goods.0.counts.0, omega (arith, goods.0.counts.1)); right = goods.0.right })
good_at f s sum (m ∷ ls) (suc place) l later goods e = good_at f s (sum + m.count) ls place l later goods.1 e

module _ (f : Form) (n : ℕ) (bs : List ℕ) (sum at place : ℕ) (r : Reading f n bs sum at place) where
  left_over : drop at bs ≡ text_of (drop place r.lines)
  left_over = left_text bs r.lines place at r.holds.text r.at_is

  at_end : length bs ≤ at → length (decoded f bs) ≤ place
  at_end end = go (drop place r.lines) refl
    where
      go : (xs : List Line) → drop place r.lines ≡ xs → length (decoded f bs) ≤ place
      go [] e = omega (arith, ap length e, length-drop place r.lines, ap length (reading_groups f n bs sum at place r), length-map r.lines group_of)
      go (x ∷ xs) e = absurd (some_bytes x (text_of xs) (sym (drop_all at bs end) ∙ left_over ∙ ap text_of e))

  next_of : at < length bs → Next r.lines place
  next_of inside = go (drop place r.lines) refl
    where
      go : (xs : List Line) → drop place r.lines ≡ xs → Next r.lines place
      go [] e = absurd (omega (arith, ap length (left_over ∙ ap text_of e), length-drop at bs))
      go (x ∷ xs) e = next_line r.lines place x xs e

  module _ (inside : at < length bs) where
    here : Next r.lines place
    here = next_of inside

    front : drop at bs ≡ line_bytes here.line ++ text_of here.later
    front = left_over ∙ ap text_of here.split

    good_here : Good f (slate n) 0 here.line
    good_here = good_at f (slate n) 0 r.lines place here.line here.later (fit_goods f (slate n) r.lines r.holds.formed r.holds.fit) here.split

    none_faulty : (e : LineFault) → FaultyLine f (slate n) 0 (drop at bs) e → ⊥
    none_faulty e fault =
        good_not_refused f (slate n) 0 (drop at bs) fault.cause e.byte here.line (text_of here.later) good_here front (fault.refused (omega (arith, length-drop at bs)))

    module _ (g : GroupRead) (took : TakesGroup f (slate n) 0 (drop at bs) g) where
      same_line : took.line ≡ here.line
      same_line = (one_line f took.line here.line _ _ took.good.formed good_here.formed (sym took.split ∙ front)).0

      hands_out : drop place (decoded f bs) ≡ group_value g.group ∷ drop (place + 1) (decoded f bs)
      hands_out =
          let groups = reading_groups f n bs sum at place r in
          ap (drop place) groups ∙ drop-map group_of place r.lines ∙ ap (map group_of) here.split ∙ ap (λ l. group_of l ∷ map group_of here.later) (sym same_line) ∙ ap (λ h. h ∷ map group_of here.later) (sym took.value) ∙ ap (λ l. group_value g.group ∷ l) (ap (map group_of) (sym here.behind) ∙ sym (drop-map group_of (place + 1) r.lines) ∙ ap (drop (place + 1)) (sym groups))

      moved_on : Reading f n bs sum (at + g.length) (place + 1)
      moved_on = record {
        lines = r.lines;
        holds = r.holds;
        sum_is = r.sum_is;
        within = omega (arith, here.inside);
        at_is =
            omega
            (arith, r.at_is, took.long, ap (λ l. length (line_bytes l)) same_line, ap (λ l. length (text_of l)) here.passed, ap length (text_append (take place r.lines) (here.line ∷ [])), length-append (text_of (take place r.lines)) (text_of (here.line ∷ [])), length-append (line_bytes here.line) []);
      }

      moved_within : at + g.length ≤ length bs
      moved_within = omega (arith, took.long, ap length took.split, length-append (line_bytes took.line) (drop g.length (drop at bs)), length-drop at bs)

module _ (f : Form) (n : ℕ) (bs : List ℕ) (sum at place : ℕ) (reading : ∥ Reading f n bs sum at place ∥₁) where
  -- at the end of the text every group was handed out
  pub all_out : length bs ≤ at → length (decoded f bs) ≤ place
  all_out end = ∥∥₁_elim reading le_prop λ r. at_end f n bs sum at place r end

  -- no line of an opened text is faulty
  pub never_faulty : at < length bs → (e : LineFault) → FaultyLine f (slate n) 0 (drop at bs) e → ⊥
  never_faulty inside e fault = ∥∥₁_elim reading (λ x y. absurd x) λ r. none_faulty f n bs sum at place r inside e fault

  -- the group that was read is the next of the source's, and the place moves on
  pub next_out : at < length bs → (g : GroupRead) → TakesGroup f (slate n) 0 (drop at bs) g → drop place (decoded f bs) ≡ group_value g.group ∷ drop (place + 1) (decoded f bs)
  next_out inside g took = ∥∥₁_elim reading (groups_set _ _) λ r. hands_out f n bs sum at place r inside g took

  pub next_reading : at < length bs → (g : GroupRead) → TakesGroup f (slate n) 0 (drop at bs) g → ∥ Reading f n bs sum (at + g.length) (place + 1) ∥₁
  next_reading inside g took = ∥∥₁_map reading λ r. moved_on f n bs sum at place r inside g took

  pub next_within : at < length bs → (g : GroupRead) → TakesGroup f (slate n) 0 (drop at bs) g → at + g.length ≤ length bs
  next_within inside g took = ∥∥₁_elim reading le_prop λ r. moved_within f n bs sum at place r inside g took

  pub place_bound : place ≤ at
  place_bound = ∥∥₁_elim reading le_prop λ r. omega (arith, lines_le (take place r.lines), length-take-le place r.lines r.within, r.at_is)

  pub again_at_start : ∥ Reading f n bs sum 0 0 ∥₁
  again_at_start = ∥∥₁_map reading λ r. record { lines = r.lines; holds = r.holds; sum_is = r.sum_is; within = omega arith; at_is = refl }
