use Rattle.std.proofs.Common.{arith}
use Rattle.irv.proofs.Tallies.{groups_le}
use Rattle.ballot.proofs.walk.groups_in.Goals as goal

pub overflow_add-groups : goal.overflow_add-groups
overflow_add-groups g c =
    let m = g.S.BallotSource in
    let source = c.loop-groups.source in
    let sound = m.sound source in
    omega (arith, c.loop-groups.invariant.1.1, sound.within, groups_le (m.contest source) (m.groups source) sound.fit.groups, sound.fit.sum)
