-- Who stands in a contest, what a ballot ranks, to whom it belongs, and how many ballots a candidate has.
use Rattle.std.specs.Prelude.{◌≡◌, ℕ, ◌≤◌, Bool, true, false, cond, not, ◌&&◌, ◌||◌, List, [], ◌∷◌, Some, None, sum_by, Option, ◌==◌, nat_le}
use Rattle.irv.specs.Sets.{Set, has}

-- who stands in a contest: the candidates are numbered from 1
pub record Slate : Type 0 where
  pub candidates : ℕ

abbrev pub slate : ℕ → Slate
slate n = record { candidates = n }

-- a contest has 2 to 16 candidates
abbrev pub Proper : Slate → Type 0
Proper s = (2 ≤ s.candidates) × (s.candidates ≤ 16)

abbrev pub member : Slate → ℕ → Bool
member s c = nat_le 1 c && nat_le c s.candidates

abbrev pub mem : ℕ → List ℕ → Bool
mem c [] = false
mem c (x ∷ xs) = x == c || mem c xs

-- a ranking, best first: each is a member, and none comes again
abbrev pub ranks : Slate → List ℕ → Bool
ranks s [] = true
ranks s (c ∷ cs) = member s c && (not (mem c cs) && ranks s cs)

-- ballots with one ranking, and how many there are
pub record BallotGroup : Type 0 where
  pub ranking : List ℕ
  pub count : ℕ
  deriving IsSet as ballot_group_set

abbrev pub fits_group : Slate → BallotGroup → Bool
fits_group s g = ranks s g.ranking && nat_le 1 g.count

abbrev pub all_fit : Slate → List BallotGroup → Bool
all_fit s [] = true
all_fit s (g ∷ gs) = fits_group s g && all_fit s gs

abbrev pub ballots : List BallotGroup → ℕ
ballots gs = sum_by (λ g. g.count) gs

abbrev pub most_ballots : ℕ
most_ballots = 100000000

-- groups that a ballot source may stand for
pub record Fits (s : Slate) (gs : List BallotGroup) : Type 0 where
  pub groups : all_fit s gs ≡ true
  pub sum : ballots gs ≤ most_ballots
  deriving IsProp as fits_prop

-- what counts of a group's ranking in a contest
abbrev pub reading : Slate → BallotGroup → List ℕ
reading s g = g.ranking

-- whom a ballot belongs to while R stands: the first of its ranking in R, or nobody
abbrev pub owner : Set → List ℕ → Option ℕ
owner R [] = None
owner R (c ∷ cs) = cond (has R c) (Some c) (owner R cs)

abbrev pub is_owned : Option ℕ → ℕ → Bool
is_owned None c = false
is_owned (Some x) c = x == c

abbrev pub belongs : Set → List ℕ → ℕ → Bool
belongs R r c = is_owned (owner R r) c

-- how many ballots of the group belong to c
abbrev pub worth : Slate → Set → ℕ → BallotGroup → ℕ
worth s R c g = cond (belongs R (reading s g) c) g.count 0

-- how many ballots belong to c while R stands
unfoldable pub tally : Slate → List BallotGroup → Set → ℕ → ℕ
tally s gs R c = sum_by (worth s R c) gs
