-- A text read line by line: what was read so far, one line more, the first faulty line, the end.
use Rattle.std.proofs.Common.{◌≡◌, ℕ, ◌+◌, ◌<◌, ◌≤◌, true, leb, List, [], ◌∷◌, ◌++◌, map, length, drop, sym, refl, ap, ◌∙◌, subst, arith, length-append}
use Rattle.std.proofs.ByRecursion.{All-push}
use Rattle.std.proofs.lemmas.List.{append_assoc, map_push, length_push, flat_map_more}
use Rattle.std.proofs.lemmas.List.Sums.{sum_by_push}
use Rattle.std.proofs.lemmas.Bool.{and_parts, and_from, le-leb}
use Rattle.irv.specs.Ballots.{Slate, BallotGroup, fits_group, all_fit, ballots, most_ballots, Fits}
use Rattle.std.specs.List.{AllByRecursion}
use Rattle.forms.specs.Texts.{Good, Refused}
use Rattle.forms.specs.Written.{semicolon, newline, written_ranking, Form, Line, WellFormed, line_bytes, text_of, group_of}
use Rattle.ballot_line.specs.Faults.{TakesGroup, FaultyLine}
use Rattle.ballot_text.specs.Openings.{FaultyText}
use Rattle.ballot_line.specs.declared.judge.GroupRead.{GroupRead}
use Rattle.ballot_line.specs.declared.judge.LineFault.{LineFault}

-- good lines stand in front of what is left of the text, so many that the next has this number, and they have so many ballots
pub record ReadTo (f : Form) (s : Slate) (bs left : List ℕ) (line sum : ℕ) : Type 0 where
  pub lines : List Line
  pub text : bs ≡ text_of lines ++ left
  pub formed : AllByRecursion (WellFormed f) lines
  pub fit : Fits s (map group_of lines)
  pub line_is : line ≡ length lines + 1
  pub sum_is : sum ≡ ballots (map group_of lines)

text_push : (ls : List Line) (l : Line) → text_of (ls ++ (l ∷ [])) ≡ text_of ls ++ line_bytes l
text_push ls l = sym (flat_map_more line_bytes [] ls l)

all_fit_push : (s : Slate) (gs : List BallotGroup) (g : BallotGroup) → all_fit s gs ≡ true → fits_group s g ≡ true → all_fit s (gs ++ (g ∷ [])) ≡ true
all_fit_push s [] g h is = and_from (fits_group s g) true is refl
all_fit_push s (x ∷ gs) g h is =
    let parts = and_parts (fits_group s x) (all_fit s gs) h in
    and_from (fits_group s x) (all_fit s (gs ++ (g ∷ []))) parts.0 (all_fit_push s gs g parts.1 is)

good_fits : (f : Form) (s : Slate) (sum : ℕ) (l : Line) → Good f s sum l → fits_group s (group_of l) ≡ true
good_fits f s sum l good = and_from _ (leb 1 l.count) good.right (le-leb 1 l.count good.counts.0)

pub some_line_bytes : (l : Line) → 1 ≤ length (line_bytes l)
some_line_bytes l = omega (arith, length-append l.head (semicolon ∷ (written_ranking l.numbers ++ (newline ∷ []))))

nothing : (bs : List ℕ) → length bs ≡ 0 → bs ≡ []
nothing [] none = refl
nothing (b ∷ bs) none = absurd (omega (arith, none))

-- there are at most as many lines as bytes
pub lines_le : (ls : List Line) → length ls ≤ length (text_of ls)
lines_le [] = omega arith
lines_le (l ∷ ls) = omega (arith, length-append (line_bytes l) (text_of ls), some_line_bytes l, lines_le ls)

module _ (f : Form) (s : Slate) (bs left : List ℕ) (line sum : ℕ) (so_far : ReadTo f s bs left line sum) where
  pub line_within : line + length left ≤ length bs + 1
  line_within = omega (arith, lines_le so_far.lines, so_far.line_is, ap length so_far.text, length-append (text_of so_far.lines) left)

  module _ (r : GroupRead) (took : TakesGroup f s sum left r) where
    pub count_is : r.group.count ≡ took.line.count
    count_is = ap (λ g. g.count) took.value

    pub sum_within : sum + r.group.count ≤ most_ballots
    sum_within = omega (arith, count_is, took.good.counts)

    pub read_more : ReadTo f s bs (drop r.length left) (line + 1) (sum + r.group.count)
    read_more =
        let ls = so_far.lines in
        let l = took.line in
        record {
          lines = ls ++ (l ∷ []);
          text = so_far.text ∙ ap (λ x. text_of ls ++ x) took.split ∙ sym (append_assoc (text_of ls) (line_bytes l) (drop r.length left)) ∙ ap (λ x. x ++ drop r.length left) (sym (text_push ls l));
          formed = All-push (WellFormed f) ls l so_far.formed took.good.formed;
          fit = record {
            groups = ap (all_fit s) (map_push group_of ls l) ∙ all_fit_push s (map group_of ls) (group_of l) so_far.fit.groups (good_fits f s sum l took.good);
            sum = omega (arith, ap ballots (map_push group_of ls l), sum_by_push (λ g. g.count) (map group_of ls) (group_of l), so_far.sum_is, took.good.counts);
          };
          line_is = omega (arith, so_far.line_is, length_push ls l);
          sum_is = omega (arith, ap ballots (map_push group_of ls l), sum_by_push (λ g. g.count) (map group_of ls) (group_of l), so_far.sum_is, count_is);
        }

  pub read_faulty : (e : LineFault) → 0 < length left → FaultyLine f s sum left e → FaultyText f s bs (record { cause = e.cause; line = line; byte = e.byte })
  read_faulty e some fault = record {
    cause = fault.cause;
    named = fault.named;
    faulty = record {
      before = so_far.lines;
      rest = left;
      text = so_far.text;
      formed = so_far.formed;
      fit = so_far.fit;
      place = so_far.line_is;
      refused = subst (λ n. Refused f s n left fault.cause e.byte) so_far.sum_is (fault.refused some);
    };
  }
