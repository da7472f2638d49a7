-- Orders of elimination, their steps, and which of them are counts of the ballots.
use Rattle.std.specs.Prelude.{◌≡◌, ℕ, ◌<◌, ◌≤◌, true, List, [], ◌∷◌}
use Rattle.irv.specs.Sets.{Set, has, set_of}
use Rattle.irv.specs.Ballots.{Slate, member, mem, ranks, BallotGroup, tally}

-- an order: every member, each once, first out first and the winner last
pub record Order (s : Slate) (o : List ℕ) : Type 0 where
  pub ranking : ranks s o ≡ true
  pub whole : (c : ℕ) → member s c ≡ true → mem c o ≡ true

-- P holds of each step of o: of the standing set and the candidate that goes out of it
abbrev pub EachStep : (Set → ℕ → Type 0) → List ℕ → Type 0
EachStep P [] = Unit {0}
EachStep P (c ∷ []) = Unit {0}
EachStep P (c ∷ d ∷ e) = P (set_of (c ∷ d ∷ e)) c × EachStep P (d ∷ e)

-- nobody standing has fewer ballots than c
abbrev pub Fewest : Slate → List BallotGroup → Set → ℕ → Type 0
Fewest s gs R c = (x : ℕ) → has R x ≡ true → tally s gs R c ≤ tally s gs R x

-- an order in which, at each step, the one who goes out has the fewest ballots; ties go any way
pub record CountOf (s : Slate) (gs : List BallotGroup) (o : List ℕ) : Type 0 where
  pub order : Order s o
  pub steps : EachStep (Fewest s gs) o

-- of those standing with the fewest ballots, c has the lowest number
abbrev pub LowestOfTied : Slate → List BallotGroup → Set → ℕ → Type 0
LowestOfTied s gs R c = (x : ℕ) → has R x ≡ true → x < c → tally s gs R c < tally s gs R x
