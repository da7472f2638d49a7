-- The four lines of a live record.
use Rattle.std.proofs.Common.{◌≡◌, cond, ◌^◌, ◌<◌, ◌≤◌, nat_abs, w64, SFits, sym, refl, ap, ◌∙◌, arith, rules}
use Rattle.std.proofs.lemmas.Int.{to_z-of_z}
use Rattle.std.proofs.lemmas.List.{append-nil}
use Rattle.std.specs.List.{flat_map}
use Rattle.assertion.specs.Kinds.{top_kind, half_kind}
use Rattle.assertion.specs.Sums.{most_value}
use Rattle.audit.specs.Pages.{line_bytes, share, sample}
use Rattle.audit.proofs.Numbering.{line_at}
use Rattle.page.proofs.Putting.{put_on}
use Rattle.dossier.proofs.Paging.{four_lines, share_small, one_line}
use Rattle.dossier.proofs.dossier.Dossier.write_record.Goals as goal

pub overflow_cast-part : goal.overflow_cast-part
overflow_cast-part g c =
    let r = c.args.entered.now in
    let fits : SFits w64 r.margin = search rules in
    let margin : c.unsigned_abs-margin.result ≡ nat_abs r.margin = c.unsigned_abs-margin.ensures.value ∙ ap nat_abs (to_z-of_z w64 r.margin fits) in
    let small : c.unsigned_abs-margin.result ≤ most_value = omega (arith, margin, c.requires) in
    let low : c.share-part.result < 2 ^ 64 = omega (arith, c.share-part.ensures, share_small c.half.result c.unsigned_abs-margin.result c.args.self.now.ballots small) in
    search rules

pub returns : goal.returns
returns g c =
    let d = c.args.self.now in
    let r = c.args.entered.now in
    let a = r.assertion in
    let j = g.S.Sink.joins in
    let fits : SFits w64 r.margin = search rules in
    let m = nat_abs r.margin in
    let margin : c.unsigned_abs-margin.result ≡ m = c.unsigned_abs-margin.ensures.value ∙ ap nat_abs (to_z-of_z w64 r.margin fits) in
    let part : c.share-part.result ≡ share (half_kind a) m d.ballots = c.share-part.ensures ∙ ap (λ h. share h c.unsigned_abs-margin.result d.ballots) c.half.ensures ∙ ap (λ x. share (half_kind a) x d.ballots) margin in
    let pulled : c.from.result ≡ sample d.factor (top_kind a) m d.ballots =
    c.from.ensures ∙ c.sample_for-pulled.ensures ∙ ap (λ b. cond b (sample d.factor (top_kind a) m d.ballots) 0) c.if-not-entered.false in
    let lines : four_lines a c.args.number c.unsigned_abs-margin.result c.share-part.result c.from.result ≡ line_bytes d.factor d.ballots (line_at c.args.number r) =
    ap (λ x. four_lines a c.args.number x c.share-part.result c.from.result) margin ∙ ap (λ x. four_lines a c.args.number m x c.from.result) part ∙ ap (four_lines a c.args.number m (share (half_kind a) m d.ballots)) pulled in
    put_on j c.assertion_line.ensures (put_on j c.number_line.ensures (put_on j c.number_line-2.ensures c.number_line-3.ensures refl) refl)
    (lines ∙ sym (append-nil (line_bytes d.factor d.ballots (line_at c.args.number r))) ∙ sym (ap (flat_map (line_bytes d.factor d.ballots)) (one_line c.args.number r c.if-not-entered.false)))
