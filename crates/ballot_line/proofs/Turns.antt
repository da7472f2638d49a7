-- What the reader of a row of numbers keeps from turn to turn, and what it has at its returns.
use Rattle.std.proofs.Common.{◌≡◌, ℕ, ◌+◌, ◌<◌, List, [], ◌∷◌, ◌++◌, length, decimal, sym, ap, ◌∙◌, subst, append_assoc, arith}
use Rattle.std.specs.List.{flat_map, AllByRecursion}
use Rattle.std.proofs.lemmas.List.{flat_map_more, length_push}
use Rattle.std.proofs.ByRecursion.{All-push}
use Rattle.forms.specs.Written.{comma, hyphen, newline}
use Rattle.forms.specs.Fronts.{BreaksBefore, Then, NotFirst, Number, IsSmall, MoreNumbers, Numbers, RankingEnd}
use Rattle.forms.proofs.RankingBreaks.{more_breaks, more_missing, number_breaks, number_missing, written_more, ranking_written, blank_breaks}
use Rattle.ballot_line.specs.Tokens.{TakesNumber, NoNumber}
use Rattle.ballot_line.specs.Rows.{Marks, TakesNumbers, TakesRanking}

-- these numbers stand in front of rest, each with d behind it, and where rest breaks, so does the whole
pub record RowSofar (d e limit : ℕ) (bs numbers rest : List ℕ) : Type 0 where
  pub few : length numbers < limit
  pub small : AllByRecursion IsSmall numbers
  pub split : bs ≡ flat_map (λ v. decimal v ++ (d ∷ [])) numbers ++ rest
  pub lifts : (stop : List ℕ) → BreaksBefore (Then Number (MoreNumbers d e limit (length numbers + 1))) rest stop → BreaksBefore (Numbers d e limit) bs stop

-- one turn
module _ (d e limit : ℕ) (marks : Marks d e) (bs ns rest : List ℕ) (h : RowSofar d e limit bs ns rest) where
  pub row_missing : (stop : List ℕ) → NoNumber rest stop → BreaksBefore (Numbers d e limit) bs stop
  row_missing stop none =
      subst (λ l. BreaksBefore (Numbers d e limit) bs l) (sym none.all)
      (h.lifts rest (number_missing d e limit marks.joins marks.ends marks.differ (length ns + 1) rest (omega (arith, h.few)) none.missing))

  row_lifts : (v : ℕ) (next stop : List ℕ) → TakesNumber rest v next → BreaksBefore (MoreNumbers d e limit (length ns + 1)) next stop → BreaksBefore (Numbers d e limit) bs stop
  row_lifts v next stop t b =
      h.lifts stop (subst (λ l. BreaksBefore (Then Number (MoreNumbers d e limit (length ns + 1))) l stop) (sym t.split)
      (number_breaks d e limit marks.joins marks.ends marks.differ (length ns + 1) v next stop t.small t.ends b))

  -- neither the end follows, nor, while there is room, a byte that joins
  pub row_breaks : (v : ℕ) (next stop : List ℕ) → TakesNumber rest v next → stop ≡ next → NotFirst e next → (length ns + 1 < limit → NotFirst d next) → BreaksBefore (Numbers d e limit) bs stop
  row_breaks v next stop t same lacks lacks-d =
      subst (λ l. BreaksBefore (Numbers d e limit) bs l) (sym same)
      (row_lifts v next next t (more_missing d e limit marks.joins marks.ends marks.differ (length ns + 1) next (omega (arith, h.few)) lacks lacks-d))

  pub row_done : (v : ℕ) (next after : List ℕ) → TakesNumber rest v next → next ≡ e ∷ after → TakesNumbers d e limit bs (ns ++ (v ∷ [])) after
  row_done v next after t is = record {
    some = omega (arith, length_push ns v);
    few = omega (arith, h.few, length_push ns v);
    small = All-push IsSmall ns v h.small t.small;
    split =
        h.split ∙ ap (λ l. flat_map (λ u. decimal u ++ (d ∷ [])) ns ++ l) (t.split ∙ ap (λ l. decimal v ++ l) is) ∙ sym (append_assoc (flat_map (λ u. decimal u ++ (d ∷ [])) ns) (decimal v) (e ∷ after)) ∙ ap (λ l. l ++ (e ∷ after)) (written_more d ns v);
  }

  pub row_again : (v : ℕ) (next more : List ℕ) → TakesNumber rest v next → next ≡ d ∷ more → (length ns + 1 ≡ limit → ⊥) → RowSofar d e limit bs (ns ++ (v ∷ [])) more
  row_again v next more t is left = record {
    few = omega (arith, h.few, length_push ns v);
    small = All-push IsSmall ns v h.small t.small;
    split =
        h.split ∙ ap (λ l. flat_map (λ u. decimal u ++ (d ∷ [])) ns ++ l) (t.split ∙ ap (λ l. decimal v ++ l) is ∙ sym (append_assoc (decimal v) (d ∷ []) more)) ∙ sym (append_assoc (flat_map (λ u. decimal u ++ (d ∷ [])) ns) (decimal v ++ (d ∷ [])) more) ∙ ap (λ l. l ++ more) (flat_map_more (λ u. decimal u ++ (d ∷ [])) [] ns v);
    lifts = λ stop b. row_lifts v next stop t (subst (λ l. BreaksBefore (MoreNumbers d e limit (length ns + 1)) l stop) (sym is) (more_breaks d e limit marks.joins marks.ends marks.differ (length ns + 1) more stop (subst (λ k. BreaksBefore (Then Number (MoreNumbers d e limit (k + 1))) more stop) (length_push ns v) b)));
  }

pub ranking_row : (bs ns rest : List ℕ) → TakesNumbers comma newline 16 bs ns rest → TakesRanking bs ns rest
ranking_row bs ns rest h = record {
  formed = record { few = h.few; small = h.small };
  split = h.split ∙ ap (λ l. l ++ (newline ∷ rest)) (sym (ranking_written ns h.some));
}

pub ranking_unended : (bs blank rest : List ℕ) → bs ≡ hyphen ∷ blank → rest ≡ blank → NotFirst newline blank → BreaksBefore RankingEnd bs rest
ranking_unended bs blank rest is same lacks =
    subst (λ l. BreaksBefore RankingEnd l rest) (sym is) (subst (λ l. BreaksBefore RankingEnd (hyphen ∷ blank) l) (sym same) (blank_breaks blank lacks))
