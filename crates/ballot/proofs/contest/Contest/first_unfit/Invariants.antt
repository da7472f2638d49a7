use Rattle.std.proofs.Common.{take}
use Rattle.ballot.specs.Values.{contest_slate}
use Rattle.ballot.proofs.Growing.{Ranked}
use Rattle.ballot.proofs.contest.Contest.first_unfit.Given as goal

abbrev pub invariant-loop-i : goal.invariant-loop-i
invariant-loop-i l = Ranked (contest_slate l.self) l.seen (take l.i l.candidates)
