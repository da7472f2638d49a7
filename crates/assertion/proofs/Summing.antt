-- The values of the ballots, group by group: the sum after one more group, and that it stays small.
use Rattle.std.proofs.Common.{◌≡◌, ℕ, ◌+◌, ◌*◌, ◌≤◌, List, [], ◌∷◌, drop, ap, ◌∙◌, mul-le-mul_right, arith}
use Rattle.std.proofs.lemmas.List.Sums.{sum_by-cons}
use Rattle.irv.specs.Ballots.{Slate, BallotGroup, ballots, most_ballots, Fits}
use Rattle.irv.specs.Assertions.{value_sum}
use Rattle.irv.proofs.Adding.{sum_within_from}
use Rattle.assertion.specs.Sums.{most_value}

pub sum_first : (value : List ℕ → ℕ) (s : Slate) (g : BallotGroup) (hs rest : List BallotGroup) → hs ≡ g ∷ rest → value_sum value s hs ≡ value g.ranking * g.count + value_sum value s rest
sum_first value s g hs rest here = ap (value_sum value s) here ∙ sum_by-cons (λ g. value g.ranking * g.count) g rest

pub sum_small : (value : List ℕ → ℕ) (s : Slate) → ((r : List ℕ) → value r ≤ 1000) → (gs : List BallotGroup) → value_sum value s gs ≤ 1000 * ballots gs
sum_small value s small [] = omega arith
sum_small value s small (g ∷ gs) =
    omega (
      arith,
      sum_by-cons (λ g. value g.ranking * g.count) g gs,
      sum_by-cons (λ g. g.count) g gs,
      mul-le-mul_right g.count (small g.ranking),
      sum_small value s small gs,
    )

-- among the groups from place p on
pub sum_fits : (value : List ℕ → ℕ) (s : Slate) → ((r : List ℕ) → value r ≤ 1000) → (gs : List BallotGroup) (p : ℕ) → Fits s gs → value_sum value s (drop p gs) ≤ most_value
sum_fits value s small gs p fit =
    let few : ballots (drop p gs) ≤ most_ballots = sum_within_from s gs p (ballots (drop p gs)) fit (omega arith) in
    omega (arith, sum_small value s small (drop p gs), few)

-- the half for each ballot is small too
pub halves_fit : (half n : ℕ) → half ≤ 1000 → n ≤ most_ballots → half * n ≤ most_value
halves_fit half n low few = omega (arith, mul-le-mul_right n low)
