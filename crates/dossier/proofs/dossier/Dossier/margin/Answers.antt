-- A live number's margin, as it is stored.
use Rattle.std.proofs.Common.{Ok, sym, ap, ◌∙◌, w64, SFits, rules}
use Rattle.std.proofs.lemmas.Int.{to_z-of_z}
use Rattle.dossier.specs.Dossiers.{state}
use Rattle.dossier.proofs.Asking.{tally_mark, margin_told}
use Rattle.dossier.proofs.dossier.Dossier.margin.Goals as goal

pub returns : goal.returns
returns c =
    let r = c.index-entered.result.now in
    let live = c.in_ok-place.ensures in
    let fits : SFits w64 r.margin = search rules in
    ap (λ m. Ok (m, c.top.result)) (to_z-of_z w64 r.margin fits) ∙ ap (λ t. Ok (r.margin, t)) c.top.ensures
    ∙ sym (margin_told (state c.args.self.now) c.args.number c.in_ok-place.place r live.0 (tally_mark c.args.self.now.stage c.in_ok-may_answer.field-0 c.in_ok-may_answer.ensures) live.1.0 live.1.1 c.index-entered.ensures)
