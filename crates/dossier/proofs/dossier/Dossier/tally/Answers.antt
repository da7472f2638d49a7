-- The records stay fine, since the source's ballots are few.
use Rattle.std.proofs.Common.{◌≡◌, map, vec_items, ap, ◌∙◌, rules}
use Rattle.std.proofs.lemmas.List.{with_items_is, places}
use Rattle.irv.specs.Ballots.{slate}
use Rattle.audit.specs.Calls.{retallied}
use Rattle.dossier.specs.Fine.{all_fine}
use Rattle.dossier.proofs.Tallying.{fine_tallied}
use Rattle.dossier.proofs.dossier.Dossier.tally.Goals as goal

pub invariant_of-self-clause-fine : goal.invariant_of-self-clause-fine
invariant_of-self-clause-fine g c =
    let m = g.S.BallotSource in
    let s = slate c.args.self.now.contest.candidates in
    let same : m.contest c.args.source.now ≡ s = cc in
    ap (all_fine s) (with_items_is c.args.self.now.records c.tally_all.new.records (search (rules, places))) ∙ fine_tallied s (m.contest c.args.source.now) (m.groups c.args.source.now) (vec_items c.args.self.now.records) c.tally_all.new.records same (c.tally_all.ensures.after ∙ ap (map (retallied (m.contest c.args.source.now) (m.groups c.args.source.now))) c.deref_mut.ensures.value) (m.sound c.args.source.now).fit.sum c.args.self.now.fine
