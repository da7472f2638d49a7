-- The records before the place are changed, and the others are as they were.
use Rattle.std.proofs.Common.{◌≡◌}
use Rattle.dossier.specs.Tallies.{cleared}
use Rattle.dossier.proofs.Tallying.{partly}
use Rattle.dossier.proofs.dossier.tallying.clear_margins.Given as goal

abbrev pub invariant-loop-entered : goal.invariant-loop-entered
invariant-loop-entered l = l.records ≡ partly cleared l.entered-index l.initial.records
