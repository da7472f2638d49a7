-- Some record forbids the step exactly if some line does.
use Rattle.std.proofs.Common.{◌∙◌, rules, tests}
use Rattle.std.proofs.lemmas.Iterator.{YieldsList-from_slice}
use Rattle.std.proofs.lemmas.Iterator.Search.{any_from_yields_List}
use Rattle.dossier.proofs.Ruling.{forbidden, any_rules}
use Rattle.dossier.proofs.live.methods.any_forbids.Goals as goal

pub returns : goal.returns
returns c =
    let R = c.args.standing in
    let rs = c.args.records.now in
    any_from_yields_List (forbidden R c.args.out) _ _ c.any.result c.any.ensures.ran (YieldsList-from_slice rs cc) (λ x b q k. search (rules, tests)) ∙ any_rules R c.args.out 1 rs
