-- What the loop over the groups keeps true, and why it ends.
use Rattle.std.proofs.Common.{◌≡◌, ◌+◌, ◌-◌, length, drop}
use Rattle.irv.specs.Assertions.{value_sum}
use Rattle.ballot.specs.Sources.{SameBallots}
use Rattle.assertion.proofs.tallying.sum_rest.Given as goal

-- the source is the one of the loop's start, but for its place, and what the sum lacks is in the groups from there on
abbrev pub invariant-loop-group : goal.invariant-loop-group
invariant-loop-group g l = SameBallots g.S.BallotSource.contest g.S.BallotSource.groups l.initial.source l.source × (l.sum + value_sum (g.A.Assorter.value l.assertion) (g.S.BallotSource.contest l.initial.source) (drop (g.S.BallotSource.place l.source) (g.S.BallotSource.groups l.initial.source)) ≡ value_sum (g.A.Assorter.value l.assertion) (g.S.BallotSource.contest l.initial.source) (drop (g.S.BallotSource.place l.initial.source) (g.S.BallotSource.groups l.initial.source)))

abbrev pub decreases-loop-group : goal.decreases-loop-group
decreases-loop-group g l = length (g.S.BallotSource.groups l.initial.source) - g.S.BallotSource.place l.source
