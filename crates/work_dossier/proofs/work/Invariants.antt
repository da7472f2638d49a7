use Rattle.std.proofs.Common.{◌≤◌}
use Rattle.work_dossier.proofs.work.Given as goal

abbrev pub invariant-loop-call : goal.invariant-loop-call
invariant-loop-call g l = l.refused ≤ l.call-index
