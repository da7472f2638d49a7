-- The records before the place are changed, and the others are as they were.
use Rattle.std.proofs.Common.{◌≡◌}
use Rattle.ballot.specs.Values.{group_value}
use Rattle.dossier.specs.Tallies.{with_group}
use Rattle.dossier.proofs.Tallying.{partly}
use Rattle.dossier.proofs.dossier.tallying.add_group.Given as goal

abbrev pub invariant-loop-entered : goal.invariant-loop-entered
invariant-loop-entered l = l.records ≡ partly (with_group (group_value l.group)) l.entered-index l.initial.records
