-- What the loop over the groups keeps true, and why it ends.
use Rattle.std.proofs.Common.{◌≡◌, ◌-◌, length, drop}
use Rattle.irv.proofs.Adding.{Remains}
use Rattle.ballot.specs.Sources.{SameBallots}
use Rattle.elimination.proofs.tallying.tally_rest.Given as goal

-- the source is the one of the loop's start, but for its place, and what the table lacks is in the groups from there on
abbrev pub invariant-loop-group : goal.invariant-loop-group
invariant-loop-group g l =
    let m = g.S.BallotSource in
    let gs = m.groups l.initial.source in
    record {
      same : SameBallots m.contest m.groups l.initial.source l.source;
      wide : length l.tallies.counts ≡ 16;
      remains : Remains (m.contest l.initial.source) (drop (m.place l.initial.source) gs) l.standing (drop (m.place l.source) gs) l.tallies.counts;
    }

abbrev pub decreases-loop-group : goal.decreases-loop-group
decreases-loop-group g l = length (g.S.BallotSource.groups l.initial.source) - g.S.BallotSource.place l.source
