use Rattle.elimination.proofs.Stepping.{one_comes, what_comes, step_from}
use Rattle.elimination.proofs.counting.one_step.Goals as goal

pub unwrap-out-requires : goal.unwrap-out-requires
unwrap-out-requires g c = one_comes c.least.result _ _ c.least.ensures (λ nobody. nobody c.requires.somebody)

pub returns-clause-step : goal.returns-clause-step
returns-clause-step g c =
    step_from (g.S.BallotSource.contest c.args.source.now) (g.S.BallotSource.groups c.args.source.now) c.args.standing.now c.unwrap-out.result c.tally_all-tallies.result.counts c.remove.result c.remove.new.self c.tally_all-tallies.ensures.tallies
    (what_comes c.least.result _ _ c.unwrap-out.result c.least.ensures c.unwrap-out.ensures) c.requires.low c.remove.ensures.value c.remove.ensures.after
