use Rattle.std.proofs.Common.{◌≡◌, ◌-◌, length}
use Rattle.ballot.proofs.walk.groups_in.Given as goal

abbrev pub invariant-loop-groups : goal.invariant-loop-groups
invariant-loop-groups g l =
    let m = g.S.BallotSource in
    (m.contest l.source ≡ m.contest l.initial.source) × ((m.groups l.source ≡ m.groups l.initial.source) × (l.groups ≡ m.place l.source))

abbrev pub decreases-loop-groups : goal.decreases-loop-groups
decreases-loop-groups g l = length (g.S.BallotSource.groups l.source) - g.S.BallotSource.place l.source
