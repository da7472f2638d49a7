use Rattle.std.proofs.Common.{rules, ◌∙◌}
use Rattle.std.proofs.lemmas.Iterator.{YieldsList-from_slice}
use Rattle.std.proofs.lemmas.Iterator.Search.{find_from_yields_List}
use borrow.Author.Tests.{tests}
use Rattle.assertion.proofs.Judging.{either_of, same_found, behind_found}
use Rattle.assertion.proofs.reading.is_not_ahead.Goals as goal

pub returns : goal.returns
returns c =
    let found = find_from_yields_List (either_of c.args.winner c.args.loser) _ _ c.find-first.result c.find-first.ensures.ran (YieldsList-from_slice c.args.ranked.now (cc)) (λ x b q k. search (rules, tests)) in
    c.eq.ensures ∙ same_found c.find-first.result _ ∙ rw found (behind_found c.args.winner c.args.loser c.args.ranked.now)
