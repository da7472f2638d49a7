use Rattle.std.proofs.Common.{length}
use Rattle.fixed_list.specs.Lists.{listed}
use Rattle.ballot_line.proofs.Turns.{RowSofar}
use Rattle.ballot_line.proofs.row.numbers.Given as goal

abbrev pub invariant-loop-next : goal.invariant-loop-next
invariant-loop-next l = RowSofar l.joint l.end l.limit l.left (listed l.value) l.rest

abbrev pub decreases-loop-next : goal.decreases-loop-next
decreases-loop-next l = length l.rest
