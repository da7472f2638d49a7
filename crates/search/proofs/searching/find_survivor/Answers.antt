-- The walk from the empty ending is the whole search.
use Rattle.std.proofs.Common.{sym, ap, ◌∙◌}
use Rattle.irv.specs.Walks.{run_below}
use Rattle.irv.proofs.Searching.{search_laws}
use Rattle.search.proofs.Answering.{searched}
use Rattle.search.proofs.searching.find_survivor.Goals as goal

pub returns-then-not-is_candidate-clause-laws : goal.returns-then-not-is_candidate-clause-laws
returns-then-not-is_candidate-clause-laws g c = search_laws

pub returns-clause-laws : goal.returns-clause-laws
returns-clause-laws g c = search_laws

pub returns-clause-answer : goal.returns-clause-answer
returns-clause-answer g c =
    let s = g.R.Rule.contest c.args.rule.now in
    let r = g.R.Rule.ruling c.args.rule.now in (
      sym c.if-not-is_candidate.ensures,
      searched s r c.args.winner c.args.limit c.answer.result (g.R.Rule.sound c.args.rule.now) (c.answer.ensures ∙ c.below-found.ensures.leads ∙ ap (λ e. run_below r c.args.winner s.candidates c.args.limit e 0) c.empty.ensures),
    )
