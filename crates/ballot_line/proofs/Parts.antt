-- What the readers of lines have at their returns.
use Rattle.std.proofs.Common.{◌≡◌, ℕ, ◌-◌, List, ◌∷◌, ◌++◌, length, take, drop, sym, ap, ◌∙◌, subst, append_assoc, arith, length-append}
use Rattle.std.proofs.lemmas.List.{take_at, drop_at}
use Rattle.fixed_list.specs.Lists.{listed}
use Rattle.forms.specs.Written.{semicolon, newline, Form, row_lines, group_lines, IsHead, written_ranking, line_bytes, LineOf}
use Rattle.forms.specs.Fronts.{Ends, BreaksBefore, NotFirst, RankingEnd, HeadOf}
use Rattle.forms.proofs.Lines.{head_missing, mark_missing, line_breaks}
use Rattle.ballot_line.specs.Rows.{TakesRanking}
use Rattle.ballot_line.specs.Lines.{TakesHead, NoHead, ReadsLine, IsSecond, field_bytes, line_of}
use Rattle.ballot_line.specs.declared.field.Field.{Field}
use Rattle.ballot_line.specs.declared.line.LineRead.{LineRead}

pub line_headless : (f : Form) (bs rest : List ℕ) → NoHead f bs rest → BreaksBefore (LineOf f) bs rest
line_headless f bs rest none = subst (λ l. BreaksBefore (LineOf f) bs l) (sym none.all) (head_missing f bs none.missing)

head_is : (f : Form) (bs : List ℕ) (count : ℕ) → IsHead f bs count → HeadOf f bs
head_is row_lines bs count h = h.0
head_is group_lines bs count h = (count, h)

pub line_unmarked : (f : Form) (bs : List ℕ) (field : Field) (count : ℕ) (rest stop : List ℕ) → TakesHead f bs field count rest → stop ≡ rest → NotFirst semicolon rest → BreaksBefore (LineOf f) bs stop
line_unmarked f bs field count rest stop h same lacks =
    subst (λ l. BreaksBefore (LineOf f) l stop) (sym h.split) (subst (λ l. BreaksBefore (LineOf f) (field_bytes field ++ rest) l) (sym same)
    (mark_missing f (field_bytes field) rest (head_is f _ count h.formed) h.ends lacks))

pub line_unranked : (f : Form) (bs : List ℕ) (field : Field) (count : ℕ) (rest behind stop : List ℕ) → TakesHead f bs field count rest → rest ≡ semicolon ∷ behind → BreaksBefore RankingEnd behind stop → BreaksBefore (LineOf f) bs stop
line_unranked f bs field count rest behind stop h marked broken =
    subst (λ l. BreaksBefore (LineOf f) l stop) (sym (h.split ∙ ap (λ l. field_bytes field ++ l) marked))
    (line_breaks f (field_bytes field) behind stop (head_is f _ count h.formed) (subst (Ends (HeadOf f) (field_bytes field)) marked h.ends) broken)

pub line_read : (f : Form) (bs : List ℕ) (r : LineRead) (rest behind after : List ℕ) → TakesHead f bs r.first r.count rest → rest ≡ semicolon ∷ behind → TakesRanking behind (listed r.numbers) after → IsSecond r.second → field_bytes r.second ≡ take (length behind - length after - 1) behind → r.length ≡ length bs - length after → ReadsLine f bs r
line_read f bs r rest behind after h marked t second part size = record {
  formed = record { head = h.formed; ranking = t.formed };
  split = whole ∙ ap (λ l. line_bytes (line_of r) ++ l) (sym left);
  long = long;
  first = h.kind;
  second = second;
  ranking = part ∙ ap (take (length behind - length after - 1)) t.split ∙ take_at ranking (newline ∷ after) (length behind - length after - 1) (omega (arith, ap length t.split, length-append ranking (newline ∷ after)));
}
  where
    ranking : List ℕ
    ranking = written_ranking (listed r.numbers)

    whole : bs ≡ line_bytes (line_of r) ++ after
    whole = h.split ∙ ap (λ l. field_bytes r.first ++ l) (marked ∙ ap (λ l. semicolon ∷ l) t.split) ∙ simp append_assoc

    long : r.length ≡ length (line_bytes (line_of r))
    long = size ∙ omega (arith, ap length whole, length-append (line_bytes (line_of r)) after)

    left : drop r.length bs ≡ after
    left = ap (drop r.length) whole ∙ drop_at (line_bytes (line_of r)) after r.length (sym long)
