-- What a count stands for: its order of elimination, and the tallies of each step.
use Rattle.std.specs.Prelude.{◌≡◌, ℕ, ◌≤◌, true, false, List, [], ◌∷◌, ◌++◌, map}
use Rattle.irv.specs.Sets.{Set, has, set_of}
use Rattle.irv.specs.Ballots.{Slate, mem, BallotGroup}
use Rattle.irv.specs.Orders.{EachStep, CountOf, LowestOfTied}
use Rattle.irv.specs.Tables.{shown, Shows}
use Rattle.fixed_list.specs.Lists.{listed}
use Rattle.elimination.specs.declared.count_step.CountStep.{CountStep}
use Rattle.elimination.specs.declared.count.Count.{Count}

abbrev pub steps_of : Count → List CountStep
steps_of k = listed k.steps

-- those who went out, in that order, and then who is left
abbrev pub order_of : List CountStep → ℕ → List ℕ
order_of xs winner = map (λ x. x.out) xs ++ (winner ∷ [])

-- each step shows the tallies while its own candidate and all later ones stand, and 0 for everybody else
abbrev pub Tabled : Slate → List BallotGroup → List CountStep → ℕ → Type 0
Tabled s gs [] winner = Unit {0}
Tabled s gs (x ∷ xs) winner =
    Shows s gs (set_of (order_of (x ∷ xs) winner)) x.tallies.counts
    × (((c : ℕ) → mem c (order_of (x ∷ xs) winner) ≡ false → shown x.tallies.counts c ≡ 0) × Tabled s gs xs winner)

-- a count of the ballots in which ties send out the lowest number, with the tallies of each step
pub record OneCount (s : Slate) (gs : List BallotGroup) (xs : List CountStep) (winner : ℕ) : Type 0 where
  pub count : CountOf s gs (order_of xs winner)
  pub ties : EachStep (LowestOfTied s gs) (order_of xs winner)
  pub table : Tabled s gs xs winner

-- some candidate with a number up to 16 is in R
abbrev pub Somebody : Set → Type 0
Somebody R = (d : ℕ) × ((has R d ≡ true) × (d ≤ 16))
