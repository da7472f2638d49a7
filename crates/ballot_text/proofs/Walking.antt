-- A walk from line to line of a text: how far it has come, the line there, one line on, the end.
use Rattle.std.proofs.Common.{◌≡◌, ℕ, ◌+◌, ◌-◌, ◌<◌, ◌≤◌, List, [], ◌∷◌, ◌++◌, length, take, drop, sym, refl, ap, ◌∙◌, arith, length-append, length-drop}
use mathlib.Core.Logic.{∥∥₁_elim}
use Rattle.std.proofs.lemmas.List.{drop_all}
use Rattle.irv.specs.Ballots.{Slate, slate}
use Rattle.forms.specs.Languages.{Breaks}
use Rattle.forms.specs.Texts.{Holds}
use Rattle.forms.specs.Written.{Form, Line, WellFormed, LineOf, line_bytes, text_of}
use Rattle.forms.proofs.Fronts.{no_break}
use Rattle.forms.proofs.Outcome.{fit_goods}
use Rattle.forms.proofs.Reading.{one_line, some_bytes}
use Rattle.ballot_text.specs.Fields.{FieldsAmong}
use Rattle.ballot_line.specs.Lines.{line_of, ReadsLine}
use Rattle.ballot_text.specs.Readings.{Reading}
use Rattle.ballot_line.specs.declared.line.LineRead.{LineRead}
use Rattle.ballot_text.proofs.Placing.{left_text, Next, next_line, good_at, text_append}

-- so many lines were passed, and the next begins at this byte
abbrev pub Passed : Form → Slate → List ℕ → ℕ → ℕ → Type 0
Passed f s bs passed at = (ls : List Line) → Holds f s bs ls → (passed ≤ length ls) × (at ≡ length (text_of (take passed ls)))

pub passed_none : (f : Form) (s : Slate) (bs : List ℕ) → Passed f s bs 0 0
passed_none f s bs ls holds = (omega arith, refl)

module _ (f : Form) (s : Slate) (bs : List ℕ) (passed at : ℕ) (walked : Passed f s bs passed at) (ls : List Line) (holds : Holds f s bs ls) where
  left_here : drop at bs ≡ text_of (drop passed ls)
  left_here = left_text bs ls passed at holds.text (walked ls holds).1

  none_left : length bs ≤ at → length ls ≤ passed
  none_left end = go (drop passed ls) refl
    where
      go : (xs : List Line) → drop passed ls ≡ xs → length ls ≤ passed
      go [] e = omega (arith, ap length e, length-drop passed ls)
      go (x ∷ xs) e = absurd (some_bytes x (text_of xs) (sym (drop_all at bs end) ∙ left_here ∙ ap text_of e))

  module _ (inside : at < length bs) where
    line_here : Next ls passed
    line_here = go (drop passed ls) refl
      where
        go : (xs : List Line) → drop passed ls ≡ xs → Next ls passed
        go [] e = absurd (omega (arith, ap length (left_here ∙ ap text_of e), length-drop at bs))
        go (x ∷ xs) e = next_line ls passed x xs e

    front_here : drop at bs ≡ line_bytes line_here.line ++ text_of line_here.later
    front_here = left_here ∙ ap text_of line_here.split

    formed_here : WellFormed f line_here.line
    formed_here = (good_at f s 0 ls passed line_here.line line_here.later (fit_goods f s ls holds.formed holds.fit) line_here.split).formed

    unbroken : (i : ℕ) → Breaks (LineOf f) (drop at bs) i → ⊥
    unbroken i broken = no_break f (drop at bs) line_here.line (text_of line_here.later) i formed_here front_here broken

    module _ (r : LineRead) (read : ReadsLine f (drop at bs) r) where
      same_here : line_of r ≡ line_here.line
      same_here = (one_line f (line_of r) line_here.line (drop r.length (drop at bs)) (text_of line_here.later) read.formed formed_here (sym read.split ∙ front_here)).0

      passed_here : (passed + 1 ≤ length ls) × (at + r.length ≡ length (text_of (take (passed + 1) ls)))
      passed_here = (
        omega (arith, line_here.inside),
        omega (arith, (walked ls holds).1, read.long, ap (λ l. length (line_bytes l)) same_here, ap (λ l. length (text_of l)) line_here.passed, ap length (text_append (take passed ls) (line_here.line ∷ [])), length-append (text_of (take passed ls)) (text_of (line_here.line ∷ [])), length-append (line_bytes line_here.line) []),
      )

      fields_here : (number : ℕ) → passed + 1 ≡ number → FieldsAmong f ls number (record { first = r.first; second = r.second; at = at })
      fields_here number is =
          let k : number - 1 ≡ passed = omega arith in
          record {
            line = line_here.line;
            later = line_here.later;
            some = omega arith;
            stands = ap (λ i. drop i ls) k ∙ line_here.split;
            first_kind = read.first;
            first_is = ap (λ l. l.head) same_here;
            second_kind = read.second;
            second_is = read.ranking ∙ ap (λ l. Rattle.forms.specs.Written.written_ranking l.numbers) same_here;
            at_is = (walked ls holds).1 ∙ ap (λ i. length (text_of (take i ls))) (sym k);
          }

module _ (f : Form) (s : Slate) (bs : List ℕ) (passed at : ℕ) (walked : Passed f s bs passed at) where
  pub passed_more : at < length bs → (r : LineRead) → ReadsLine f (drop at bs) r → Passed f s bs (passed + 1) (at + r.length)
  passed_more inside r read ls holds = passed_here f s bs passed at walked ls holds inside r read

  pub passed_all : length bs ≤ at → (ls : List Line) → Holds f s bs ls → length ls ≤ passed
  passed_all end ls holds = none_left f s bs passed at walked ls holds end

  pub fields_found : at < length bs → (r : LineRead) → ReadsLine f (drop at bs) r → (number : ℕ) → passed + 1 ≡ number → (ls : List Line) → Holds f s bs ls → FieldsAmong f ls number (record { first = r.first; second = r.second; at = at })
  fields_found inside r read number is ls holds = fields_here f s bs passed at walked ls holds inside r read number is

-- no line of an opened text breaks
pub never_broken : (f : Form) (n : ℕ) (bs : List ℕ) (sum place_at place passed at : ℕ) → ∥ Reading f n bs sum place_at place ∥₁ → Passed f (slate n) bs passed at → at < length bs → (i : ℕ) → Breaks (LineOf f) (drop at bs) i → ⊥
never_broken f n bs sum place_at place passed at reading walked inside i broken =
    ∥∥₁_elim reading (λ x y. absurd x) λ r. unbroken f (slate n) bs passed at walked r.lines r.holds inside i broken

pub read_within : (f : Form) (bs : List ℕ) (at : ℕ) (r : LineRead) → at ≤ length bs → ReadsLine f (drop at bs) r → at + r.length ≤ length bs
read_within f bs at r within read = omega (arith, read.long, ap length read.split, length-append (line_bytes (line_of r)) (drop r.length (drop at bs)), length-drop at bs)
