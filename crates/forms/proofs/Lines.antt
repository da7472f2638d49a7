-- Where lines break.
use Rattle.std.proofs.Common.{◌≡◌, ℕ, Bool, false, List, [], ◌∷◌, ◌++◌, decimal, sym, refl, ap, ◌∙◌, subst, arith}
use Rattle.forms.specs.Languages.{Language}
use Rattle.forms.specs.Written.{semicolon, newline, hyphen, Form, row_lines, group_lines, Line, IsIdentifier, identifier_byte, IsRanking, written_ranking, LineOf}
use Rattle.forms.specs.Fronts.{Ends, BreaksBefore, Then, Behind, NotFirst, digit_byte, Number, RankingEnd, HeadOf}
use Rattle.forms.proofs.Breaking.{then_breaks, then_missing, behind_breaks, behind_missing, same_breaks}
use Rattle.forms.proofs.Digits.{number_digits, number_some, number_is, identifier_some}

-- what follows the first field
abbrev Tail : Language
Tail = Behind semicolon RankingEnd

line_to : (f : Form) (w : List ℕ) → Then (HeadOf f) Tail w → LineOf f w
line_to row_lines w (t, x, is, (y, (vs, formed, ends), marked), whole) = (
  record { head = t; count = 1; numbers = vs },
  record { head = (is, refl); ranking = formed },
  whole ∙ ap (λ l. t ++ l) (marked ∙ ap (λ l. semicolon ∷ l) ends),
)
line_to group_lines w (t, x, (v, is), (y, (vs, formed, ends), marked), whole) = (
  record { head = t; count = v; numbers = vs },
  record { head = is; ranking = formed },
  whole ∙ ap (λ l. t ++ l) (marked ∙ ap (λ l. semicolon ∷ l) ends),
)

tail_of : (l : Line) → IsRanking l.numbers → Tail (semicolon ∷ (written_ranking l.numbers ++ (newline ∷ [])))
tail_of l formed = (_, (l.numbers, formed, refl), refl)

line_from : (f : Form) (w : List ℕ) → LineOf f w → Then (HeadOf f) Tail w
line_from row_lines w (l, formed, whole) = (l.head, _, formed.head.0, tail_of l formed.ranking, whole)
line_from group_lines w (l, formed, whole) = (l.head, _, (l.count, formed.head), tail_of l formed.ranking, whole)

a_tail : Tail (semicolon ∷ (hyphen ∷ (newline ∷ [])))
a_tail = (_, ([], record { few = omega arith; small = tt }, refl), refl)

-- the first field is missing
pub head_missing : (f : Form) (bs : List ℕ) → Ends (HeadOf f) [] bs → BreaksBefore (LineOf f) bs bs
head_missing f bs ends = same_breaks (Then (HeadOf f) Tail) (LineOf f) (line_to f) (line_from f) bs bs (go f ends)
  where
    go : (f : Form) → Ends (HeadOf f) [] bs → BreaksBefore (Then (HeadOf f) Tail) bs bs
    go row_lines ends = then_missing IsIdentifier Tail (65 ∷ []) _ bs (record { some = omega arith; short = omega arith; bytes = (refl, tt) }) a_tail identifier_some ends
    go group_lines ends = then_missing Number Tail (decimal 0) _ bs (number_is 0 (omega arith)) a_tail number_some ends

-- behind the first field
tail_breaks : (f : Form) (head bs rest : List ℕ) → HeadOf f head → Ends (HeadOf f) head bs → BreaksBefore Tail bs rest → BreaksBefore (LineOf f) (head ++ bs) rest
tail_breaks f head bs rest is ends h = same_breaks (Then (HeadOf f) Tail) (LineOf f) (line_to f) (line_from f) (head ++ bs) rest (go f is ends)
  where
    apart : (C : ℕ → Bool) → C semicolon ≡ false → (b : ℕ) (x : List ℕ) → Tail (b ∷ x) → C b ≡ false
    apart C mark b x (y, ends, marked) = let same : b ≡ semicolon = cc in subst (λ n. C n ≡ false) (sym same) mark

    go : (f : Form) → HeadOf f head → Ends (HeadOf f) head bs → BreaksBefore (Then (HeadOf f) Tail) (head ++ bs) rest
    go row_lines is ends = then_breaks IsIdentifier Tail identifier_byte (λ t i. i.bytes) (apart identifier_byte refl) head bs rest is ends h
    go group_lines is ends = then_breaks Number Tail digit_byte number_digits (apart digit_byte refl) head bs rest is ends h

-- the byte between the fields is missing
pub mark_missing : (f : Form) (head bs : List ℕ) → HeadOf f head → Ends (HeadOf f) head bs → NotFirst semicolon bs → BreaksBefore (LineOf f) (head ++ bs) bs
mark_missing f head bs is ends lacks = tail_breaks f head bs bs is ends (behind_missing semicolon RankingEnd _ bs a_tail.1 lacks)

-- the ranking breaks
pub line_breaks : (f : Form) (head bs rest : List ℕ) → HeadOf f head → Ends (HeadOf f) head (semicolon ∷ bs) → BreaksBefore RankingEnd bs rest → BreaksBefore (LineOf f) (head ++ (semicolon ∷ bs)) rest
line_breaks f head bs rest is ends h = tail_breaks f head (semicolon ∷ bs) rest is ends (behind_breaks semicolon RankingEnd bs rest h)
