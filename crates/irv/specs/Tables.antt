-- Tables of tallies, and one step of a count: who goes out, and what its table shows.
use Rattle.std.specs.Prelude.{◌≡◌, ℕ, ◌-◌, ◌<◌, ◌≤◌, true, false, cond, ◌&&◌, ◌||◌, List, ◌==◌, nat_le, nat_lt, slice_index}
use Rattle.irv.specs.Sets.{Set, has, with}
use Rattle.irv.specs.Ballots.{Slate, BallotGroup, tally}
use Rattle.irv.specs.Orders.{Fewest, LowestOfTied}

-- what a table shows of c: candidate 1 stands at its first place, and any number outside 1 to 16 has 0
abbrev pub shown : List ℕ → ℕ → ℕ
shown ts c = cond (nat_le 1 c && nat_le c 16) (slice_index ts (c - 1)) 0

-- the table shows how many ballots each has while R stands
abbrev pub Shows : Slate → List BallotGroup → Set → List ℕ → Type 0
Shows s gs R ts = (c : ℕ) → shown ts c ≡ tally s gs R c

-- where any of the candidates 1 to 16 is in R, c is: none of them in R has less by f, and none with a lower number as little
abbrev pub LeastIn : Set → (ℕ → ℕ) → ℕ → Type 0
LeastIn R f c = (x : ℕ) → has R x ≡ true → x ≤ 16 → (has R c ≡ true) × ((f c ≤ f x) × (x < c → f c < f x))

-- of best, if there is one, and c, if it is in R: who has less by f, and best where they are equal
abbrev pub less_of : Set → (ℕ → ℕ) → ℕ → ℕ → ℕ
less_of R f best c = cond (has R c && (best == 0 || nat_lt (f c) (f best))) c best

-- c goes out of R and leaves Q: of those with the fewest ballots it has the lowest number
pub record StepFrom (s : Slate) (gs : List BallotGroup) (R : Set) (c : ℕ) (ts : List ℕ) (Q : Set) : Type 0 where
  pub stood : has R c ≡ true
  pub fewest : Fewest s gs R c
  pub lowest : LowestOfTied s gs R c
  pub table : Shows s gs R ts
  pub gone : has Q c ≡ false
  pub back : with c Q ≡ R
