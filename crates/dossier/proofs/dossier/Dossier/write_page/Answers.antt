-- The parts of the page, one after the other.
use Rattle.std.proofs.Common.{vec_items, refl, ap, ◌∙◌}
use Rattle.std.specs.List.{flat_map}
use Rattle.audit.specs.Entries.{lines_from}
use Rattle.audit.specs.Pages.{page, line_bytes}
use Rattle.page.proofs.Putting.{put_on}
use Rattle.dossier.proofs.Paging.{whole_page}
use Rattle.dossier.proofs.dossier.Dossier.write_page.Goals as goal

pub returns : goal.returns
unfolding page
returns g c =
    let d = c.args.self.now in
    let j = g.S.Sink.joins in
    let lines = flat_map (line_bytes d.factor d.ballots) (lines_from 1 (vec_items d.records)) in
    put_on j c.number_line.ensures (put_on j c.number_line-2.ensures (put_on j c.number_line-3.ensures (put_on j c.write_records.ensures c.number_line-4.ensures refl) refl) refl)
    (ap (λ w. whole_page w c.from-2.result d.endings lines c.from-3.result) c.from.ensures ∙ ap (λ n. whole_page d.winner n d.endings lines c.from-3.result) c.from-2.ensures ∙ ap (whole_page d.winner d.ballots d.endings lines) (c.from-3.ensures ∙ c.total.ensures))
