-- The margins are those on the groups before the place; the source is the same but for its place, which moves to the end.
use Rattle.std.proofs.Common.{◌≡◌, ◌-◌, length, map, take}
use Rattle.ballot.specs.Sources.{SameBallots}
use Rattle.audit.specs.Calls.{retallied}
use Rattle.dossier.proofs.dossier.tallying.add_all.Given as goal

abbrev pub invariant-loop-group : goal.invariant-loop-group
invariant-loop-group g l = record {
  so_far : l.records ≡ map (retallied (g.S.BallotSource.contest l.initial.source) (take (g.S.BallotSource.place l.source) (g.S.BallotSource.groups l.initial.source))) l.initial.records;
  same : SameBallots g.S.BallotSource.contest g.S.BallotSource.groups l.initial.source l.source;
}

abbrev pub decreases-loop-group : goal.decreases-loop-group
decreases-loop-group g l = length (g.S.BallotSource.groups l.initial.source) - g.S.BallotSource.place l.source
