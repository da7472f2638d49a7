-- That a source is sound holds in one way only.
use mathlib.Core.HLevel.{×_prop}
use Rattle.std.proofs.Common.{ℕ, List}
use native.Mathlib.Bridge.{le_prop}
use Rattle.irv.specs.Ballots.{Slate, BallotGroup}
use Rattle.irv.proofs.Unique.{fits_once}
use Rattle.ballot.specs.Sources.{SoundSource, sound_source_prop}

pub sound_once : (s : Slate) (gs : List BallotGroup) (place : ℕ) → IsProp (SoundSource s gs place)
sound_once s gs place = sound_source_prop (×_prop le_prop le_prop) (fits_once s gs) le_prop
