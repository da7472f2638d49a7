-- What the answer of a search says.
use Rattle.std.specs.Prelude.{◌≡◌, ℕ, ◌<◌, ◌≤◌, List, Some, None, Option, Ok, Err, Result}
use Rattle.irv.specs.Ballots.{Slate}
use Rattle.irv.specs.Endings.{Ruling, FirstStanding, EndingsTried}
use Rattle.irv.specs.Walks.{Run, going, stopped, survived}
use Rattle.search.specs.Rules.{SameRule}
use Rattle.search.specs.EndingValues.{listing}
use Rattle.search.specs.declared.answer.Answer.{Answer}
use Rattle.search.specs.declared.answer.Answer.TheVariants.{Stopped, Found, NoSurvivor}
use Rattle.search.specs.declared.ending.Ending.{Ending}
use Rattle.search.specs.declared.searching.LimitReached.{LimitReached}
use Rattle.search.specs.declared.searching.Search.{Search}

-- how an answer tells what was found after k endings
abbrev pub Tells : ℕ → Option (List ℕ) → ℕ → Answer → Type 0
Tells limit found k Stopped = limit < k
Tells limit found k (Found e n) = (found ≡ Some (listing e)) × ((n ≡ k) × (k ≤ limit))
Tells limit found k (NoSurvivor n) = (found ≡ None) × ((n ≡ k) × (k ≤ limit))

-- the answer of a search for the first order that elects another than the winner and that the rule does not contradict
pub record Searched (s : Slate) (r : Ruling) (winner limit : ℕ) (answer : Answer) : Type 0 where
  pub found : Option (List ℕ)
  pub first : FirstStanding s r winner found
  pub k : ℕ
  pub tried : EndingsTried s r winner found k
  pub reply : Tells limit found k answer

-- how far a search is that gives this answer
abbrev pub run_of : Answer → Run
run_of Stopped = stopped
run_of (Found e n) = survived (listing e) n
run_of (NoSurvivor n) = going n

-- how far a search is that looked below an ending, found this there, and has tried so many
abbrev pub run_with : ℕ → Result (Option Ending) LimitReached → Run
run_with tried (Err limit_reached) = stopped
run_with tried (Ok None) = going tried
run_with tried (Ok (Some order)) = survived (listing order) tried

-- y is the search as x was, but for how many endings it tried
pub record SameSearch {X : Type 0} (contest : X → Slate) (ruling : X → Ruling) (kept : X → X → Type 0) (x y : Search X) : Type 0 where
  pub same_lender : y.rule.ghost_name ≡ x.rule.ghost_name
  pub same_rule : SameRule contest ruling kept x.rule.now y.rule.now
  pub same_winner : y.winner ≡ x.winner
  pub same_limit : y.limit ≡ x.limit
