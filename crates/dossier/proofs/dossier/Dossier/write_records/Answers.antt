-- One record more.
use Rattle.std.proofs.Common.{◌+◌, ◌∷◌, [], take, vec_items, ap, ◌∙◌}
use Rattle.std.specs.List.{flat_map}
use Rattle.irv.specs.Ballots.{slate}
use Rattle.audit.specs.Entries.{lines_from}
use Rattle.audit.specs.Pages.{line_bytes}
use Rattle.page.proofs.Putting.{put_on}
use Rattle.dossier.proofs.Keeping.{margin_read}
use Rattle.dossier.proofs.Paging.{lines_next, joined_append}
use Rattle.dossier.proofs.dossier.Dossier.write_records.Goals as goal

pub write_record-requires : goal.write_record-requires
write_record-requires g c =
    let d = c.args.self.now in
    margin_read (slate d.contest.candidates) (vec_items d.records) c.deref-entered-items.result.now c.loop-place.place c.entered-item.result c.deref-entered-items.ensures.value c.loop-place-test.true c.entered-item.is d.fine

pub loop-place-preserved : goal.loop-place-preserved
loop-place-preserved g c =
    let d = c.args.self.now in
    let rs = vec_items d.records in
    let qs = c.deref-entered-items.result.now in
    let i = c.loop-place.place in
    let f = line_bytes d.factor d.ballots in
    put_on g.S.Sink.joins c.loop-place.invariant c.write_record.ensures (joined_append f (lines_from 1 (take i rs)) (lines_from (i + 1) (c.entered-item.result ∷ [])) ∙ ap (flat_map f) (lines_next rs qs i c.entered-item.result c.deref-entered-items.ensures.value c.loop-place-test.true c.entered-item.is))
