-- The largest sample of a record is that of a line.
use Rattle.std.proofs.Common.{vec_items, ap, ◌∙◌, arith, rules}
use Rattle.std.proofs.lemmas.Iterator.{YieldsList-from_slice, YieldsList-from_map}
use Rattle.std.proofs.lemmas.Iterator.Consumers.{reduce_from_yields_List}
use Rattle.std.proofs.lemmas.List.Folds.{max_of_map}
use Rattle.std.specs.Option.{unwrap_or}
use Rattle.std.specs.Ordering.{max_by_ordering, nat_cmp}
use Rattle.dossier.specs.Dossiers.{pulled_for}
use Rattle.dossier.proofs.Paging.{largest_from}
use Rattle.dossier.proofs.dossier.Dossier.total.Goals as goal

pub returns : goal.returns
returns c =
    let d = c.args.self.now in
    let rs = vec_items d.records in
    let pulled = pulled_for d.factor d.ballots in
    let most = reduce_from_yields_List (λ p z. max_by_ordering (nat_cmp p z) p z) _ c.max.result c.max.ensures.ran (YieldsList-from_map _ pulled (YieldsList-from_slice rs cc) c.map.ensures.closure (λ x r q k. search rules)) in
    c.unwrap_or.ensures ∙ ap (λ o. unwrap_or o 0) most ∙ max_of_map pulled rs ∙ largest_from d.factor d.ballots 0 1 rs ∙ omega arith
