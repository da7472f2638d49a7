use Rattle.std.proofs.Common.{◌≡◌, true, sym, ap, ◌∙◌}
use Rattle.irv.specs.Ballots.{member}
use Rattle.irv.proofs.Recounts.{recount_laws}
use Rattle.elimination.proofs.Stepping.{not_refused}
use Rattle.elimination.proofs.recount.recount.Goals as goal

pub returns-then-not-is_candidate-clause-laws : goal.returns-then-not-is_candidate-clause-laws
returns-then-not-is_candidate-clause-laws g c = recount_laws

pub returns-clause-laws : goal.returns-clause-laws
returns-clause-laws g c = recount_laws

pub returns-clause-refused_place : goal.returns-clause-refused_place
returns-clause-refused_place g c =
    let stands : member (g.S.BallotSource.contest c.args.source.now) c.args.winner ≡ true = ap (λ s. member s c.args.winner) (sym c.contest_of.ensures) ∙ sym c.if-not-is_candidate.ensures in
    not_refused c.find_survivor.result (member (g.S.BallotSource.contest c.args.source.now) c.args.winner) _ _ _ stands c.find_survivor.ensures.answer
