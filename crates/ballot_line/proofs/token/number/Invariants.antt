use Rattle.std.proofs.Common.{length}
use Rattle.ballot_line.proofs.Steps.{NumberSofar}
use Rattle.ballot_line.proofs.token.number.Given as goal

abbrev pub invariant-loop-number : goal.invariant-loop-number
invariant-loop-number l = NumberSofar l.left l.number.value l.number.rest.now

abbrev pub decreases-loop-number : goal.decreases-loop-number
decreases-loop-number l = length l.number.rest.now
