-- The first record that fails has the lowest number of a line that does.
use Rattle.std.proofs.Common.{◌≡◌, ◌+◌, ◌∙◌, vec_items, None, Some, ap, rules, tests}
use Rattle.std.proofs.lemmas.Iterator.{YieldsList-from_slice}
use Rattle.std.proofs.lemmas.Iterator.Search.{position_from_yields_List}
use Rattle.std.specs.List.{position}
use Rattle.std.specs.Option.{option_map}
use Rattle.dossier.proofs.Asking.{failing, failing_first}
use Rattle.dossier.proofs.dossier.Dossier.first_failing.Goals as goal
use Rattle.dossier.proofs.dossier.Dossier.first_failing.Goals.{After-position}

found : (c : After-position) → c.position.result ≡ position failing (vec_items c.args.self.now.records)
found c = position_from_yields_List failing _ _ c.position.result c.position.ensures.ran (YieldsList-from_slice (vec_items c.args.self.now.records) cc) (λ x b q k. search (rules, tests))

pub returns-in_err-place : goal.returns-in_err-place
returns-in_err-place c =
    let rs = vec_items c.args.self.now.records in
    let none : None ≡ position failing rs = cc (found (goal.at.returns-in_err-place c).After-position) in
    c.from_residual.ensures ∙ ap (option_map (λ i. i + 1)) none ∙ failing_first rs

pub returns : goal.returns
returns c =
    let rs = vec_items c.args.self.now.records in
    let some : Some c.in_ok-place.place ≡ position failing rs = cc (found (goal.at.returns c).After-position) in
    ap (option_map (λ i. i + 1)) some ∙ failing_first rs
