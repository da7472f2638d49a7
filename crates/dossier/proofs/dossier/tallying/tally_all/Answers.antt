-- With the margins cleared and the source at its start, all groups are added.
use Rattle.std.proofs.Common.{◌≡◌, map, ap, ◌∙◌}
use Rattle.audit.specs.Calls.{retallied}
use Rattle.dossier.proofs.Tallying.{from_cleared, cleared_twice, fine_cleared}
use Rattle.dossier.proofs.dossier.tallying.tally_all.Goals as goal

pub add_all-requires-clause-none_yet : goal.add_all-requires-clause-none_yet
add_all-requires-clause-none_yet g c = let again = cleared_twice c.args.records.now in cc

pub add_all-requires-clause-fine : goal.add_all-requires-clause-fine
add_all-requires-clause-fine g c = let fine = fine_cleared (g.S.BallotSource.contest c.args.source.now) c.args.records.now c.requires in cc

pub returns-clause-after : goal.returns-clause-after
returns-clause-after g c =
    let m = g.S.BallotSource in
    let s = m.contest c.args.source.now in
    let gs = m.groups c.args.source.now in
    let all : map (retallied s gs) c.clear_margins.new.records ≡ map (retallied s gs) c.args.records.now = ap (map (retallied s gs)) c.clear_margins.ensures ∙ from_cleared s gs c.args.records.now in
    c.add_all.ensures.after ∙ (cc) ∙ all
