use Rattle.std.proofs.Common.{eqb, ◌∙◌, rules, tests}
use Rattle.std.proofs.lemmas.Iterator.{YieldsList-from_slice}
use Rattle.std.proofs.lemmas.Iterator.Search.{all_from_yields_List}
use Rattle.ballot.proofs.Finding.{contest_of_all}
use Rattle.ballot.proofs.lent.methods.of_contest.Goals as goal

pub returns : goal.returns
returns c =
    all_from_yields_List (λ g. eqb g.ranking.candidates c.args.contest.candidates) _ _ _ c.all.ensures.ran (YieldsList-from_slice c.args.groups.now cc) (λ x b q k. search (rules, tests))
    ∙ contest_of_all c.args.contest.candidates c.args.groups.now
