-- The ballots as a rule: which steps no count of them has.
use Rattle.std.specs.Prelude.{◌≡◌, ℕ, zero, suc, Bool, true, false, not, ◌&&◌, ◌||◌, List, None, ◌==◌, nat_lt}
use Rattle.irv.specs.Sets.{Set, empty, has, with, within, first_candidates}
use Rattle.irv.specs.Ballots.{Slate, BallotGroup, tally}
use Rattle.irv.specs.Orders.{Order, CountOf}
use Rattle.irv.specs.Endings.{Ruling, OnlySteps, IsStep, Stands, elected, FirstStanding}

-- the test of a step: members of the contest alone stand, c among them and not alone
abbrev pub is_step : Slate → Set → ℕ → Bool
is_step s R c = within R (first_candidates s.candidates) && (has R c && not (R == with c empty))

-- one of the candidates 1 to n stands and has fewer ballots than c
abbrev pub some_fewer : Slate → List BallotGroup → Set → ℕ → ℕ → Bool
some_fewer s gs R c zero = false
some_fewer s gs R c (suc n) = (has R (suc n) && nat_lt (tally s gs R (suc n)) (tally s gs R c)) || some_fewer s gs R c n

-- the ballots rule out each step at which somebody who stands has fewer ballots than the one who goes out
abbrev pub ballots_ruling : Slate → List BallotGroup → Ruling
ballots_ruling s gs R c = is_step s R c && some_fewer s gs R c s.candidates

-- the laws of the ballots as a rule
pub record RecountLaws : Type 0 where
  pub steps_told : (s : Slate) (R : Set) (c : ℕ) → (is_step s R c ≡ true → IsStep s R c) × (IsStep s R c → is_step s R c ≡ true)
  pub rules_out_steps : (s : Slate) (gs : List BallotGroup) → OnlySteps s (ballots_ruling s gs)
  -- an order is a count of the ballots exactly if they do not contradict it
  pub counts_stand : (s : Slate) (gs : List BallotGroup) (o : List ℕ) → Order s o → (CountOf s gs o → Stands (ballots_ruling s gs) o) × (Stands (ballots_ruling s gs) o → CountOf s gs o)
  -- there is no survivor exactly if every count of the ballots elects the winner
  pub none_elects : (s : Slate) (gs : List BallotGroup) (winner : ℕ) → (FirstStanding s (ballots_ruling s gs) winner None → (o : List ℕ) → CountOf s gs o → elected o ≡ winner) × (((o : List ℕ) → CountOf s gs o → elected o ≡ winner) → FirstStanding s (ballots_ruling s gs) winner None)
