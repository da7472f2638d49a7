use Rattle.ballot.proofs.Growing.{UpTo}
use Rattle.ballot.proofs.contest.Contest.everyone.Given as goal

abbrev pub invariant-loop-candidate : goal.invariant-loop-candidate
invariant-loop-candidate l = UpTo l.all l.candidate
