-- A number is live where the record at its place is.
use Rattle.std.proofs.Common.{◌≡◌, ◌+◌, ◌<◌, ◌≤◌, ◌∙◌, length, get_or, vec_items, refl, rules}
use Rattle.std.proofs.lemmas.Result.{err_from_is_err_and}
use Rattle.audit.proofs.Numbering.{among_below, among_past}
use Rattle.dossier.proofs.Asking.{among_read}
use Rattle.dossier.proofs.dossier.Dossier.live_place.Goals as goal

pub returns-in_err-place : goal.returns-in_err-place
returns-in_err-place c =
    let p = err_from_is_err_and c.from_residual.result c.from_residual.ensures.1 in
    rw (p.1, p.2) (among_below c.args.number 1 (vec_items c.args.self.now.records) (search rules), search rules)

pub returns-in-Some : goal.returns-in-Some
returns-in-Some c =
    let rs = vec_items c.args.self.now.records in
    let i = c.in_ok-place.place in
    let r = c.in-Some.entered.now in
    let within : i < length rs = search rules in
    let read : r ≡ get_or rs i r = search rules in
    let number : i + 1 ≡ c.args.number = search rules in
    (among_read c.args.number i rs r number within read ∙ c.if-entered.true, (number, within))

pub returns-in_default : goal.returns-in_default
returns-in_default c =
    let rs = vec_items c.args.self.now.records in
    let i = c.in_ok-place.place in
    let r = c.in-Some.entered.now in
    let within : i < length rs = search rules in
    let read : r ≡ get_or rs i r = search rules in
    (among_read c.args.number i rs r (search rules) within read ∙ c.if-entered.false, refl)

pub returns-in_default-2 : goal.returns-in_default-2
returns-in_default-2 c =
    let rs = vec_items c.args.self.now.records in
    let past : length rs ≤ c.in_ok-place.place = search rules in
    (among_past c.args.number 1 rs (search rules), refl)
