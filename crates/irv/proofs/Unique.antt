-- Facts on groups that hold in one way only.
use mathlib.Core.Bool.{Bool-set}
use Rattle.std.proofs.Common.{List}
use mathlib.Core.List.{is_set}
use native.Mathlib.Bridge.{le_prop}
use native.Mathlib.Nat.{ℕ_set}
use Rattle.irv.specs.Ballots.{Slate, BallotGroup, ballot_group_set, Fits, fits_prop}

pub groups_set : IsSet (List BallotGroup)
groups_set = is_set (ballot_group_set (is_set ℕ_set) ℕ_set)

pub fits_once : (s : Slate) (gs : List BallotGroup) → IsProp (Fits s gs)
fits_once s gs = fits_prop (Bool-set _ _) le_prop
