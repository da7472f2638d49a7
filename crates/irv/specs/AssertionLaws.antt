-- The laws of assertions, as closed statements.
use Rattle.std.specs.Prelude.{◌≡◌, ℕ, ◌*◌, ◌^◌, ◌<◌, ◌≤◌, List, map, pos, ◌-ℤ◌, None, ◌≢◌}
use Rattle.std.specs.List.{AllByRecursion}
use Rattle.irv.specs.Sets.{Set, set_of}
use Rattle.irv.specs.Ballots.{Slate, BallotGroup, Fits, tally}
use Rattle.irv.specs.Orders.{CountOf}
use Rattle.irv.specs.Endings.{Ruling, Stands, Alternative, elected}
use Rattle.irv.specs.Assertions.{Written, neb, nen, maj, nen_value, value_of, top_of, half_of, rules_of, margin, Holds, AllHold, ContradictedBy, judged, members_of}

-- an assorter's values keep within their bounds, and where it holds on the ballots no count of them has a step that it
-- rules out
pub record SoundAssorter (s : Slate) (value : List ℕ → ℕ) (top half : ℕ) (rules : Ruling) : Type 0 where
  pub within : (r : List ℕ) → value r ≤ top
  pub some : 1 ≤ half
  pub half_within : half ≤ top
  pub twice : top ≤ 2 * half
  pub small : top ≤ 1000
  pub rightly : (gs : List BallotGroup) → Fits s gs → Holds value half s gs → (o : List ℕ) → CountOf s gs o → Stands rules o

abbrev pub SoundWritten : Slate → Written → Type 0
SoundWritten s a = judged s a ≡ None → SoundAssorter s (value_of a) (top_of a) (half_of a) (rules_of a)

-- the assertions fit their contest, and hold on the ballots
pub record AllFine (s : Slate) (gs : List BallotGroup) (xs : List Written) : Type 0 where
  pub fit : AllByRecursion (λ a. judged s a ≡ None) xs
  pub hold : AllHold s gs (map (λ a. (value_of a, half_of a)) xs)

pub record AssertionLaws : Type 0 where
  pub neb_law : (s : Slate) (w l : ℕ) → SoundWritten s (neb w l)
  pub nen_law : (s : Slate) (w l : ℕ) (set : List ℕ) → SoundWritten s (nen w l set)
  pub maj_law : (s : Slate) (w a b : ℕ) → SoundWritten s (maj w a b)
  -- the margin is how many ballots more w has than l while R stands
  pub nen_margin : (s : Slate) (gs : List BallotGroup) (w l : ℕ) (R : Set) → (w ≢ l) → margin (nen_value w l R) 1 s gs ≡ pos (tally s gs R w) -ℤ pos (tally s gs R l)
  -- a set of candidates up to 16 is what its ascending members make
  pub members_make_set : (R : Set) → R < 2 ^ 16 → set_of (members_of R) ≡ R
  -- a list of assertions that fit and hold contradicts no count; where it contradicts each order that elects another than
  -- the winner, every count elects the winner
  pub none_contradicted : (s : Slate) (gs : List BallotGroup) (xs : List Written) → Fits s gs → AllFine s gs xs → (o : List ℕ) → CountOf s gs o → ContradictedBy (map rules_of xs) o → ⊥
  pub winner_elected : (s : Slate) (gs : List BallotGroup) (xs : List Written) (winner : ℕ) → Fits s gs → AllFine s gs xs → ((p : List ℕ) → Alternative s winner p → ContradictedBy (map rules_of xs) p) → (o : List ℕ) → CountOf s gs o → elected o ≡ winner
