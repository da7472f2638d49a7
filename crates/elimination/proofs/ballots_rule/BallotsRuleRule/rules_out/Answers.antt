use Rattle.std.proofs.Common.{◌≡◌, true, ◌&&◌, ltb, ◌+◌, sym, ap, ◌∙◌, rules, tests, arith}
use Rattle.std.proofs.lemmas.Iterator.{YieldsList-from_range}
use Rattle.std.proofs.lemmas.Iterator.Search.{any_from_yields_List}
use Rattle.irv.specs.Sets.{has}
use Rattle.irv.specs.Tables.{shown}
use Rattle.irv.specs.Recounts.{is_step, some_fewer}
use Rattle.elimination.proofs.Fewer.{some_fewer_any}
use Rattle.elimination.proofs.ballots_rule.BallotsRuleRule.rules_out.Goals as goal

pub returns-clause-value : goal.returns-clause-value
returns-clause-value g c =
    let m = g.S.BallotSource in
    let source = c.args.self.now.source.now in
    let told = c.tally_all-tallies.ensures in
    let ts = c.tally_all-tallies.result.counts in
    let R = c.args.standing in
    let s = m.contest source in
    let n = c.candidates.result in
    let step : is_step s R c.args.out ≡ true = ap (λ s. is_step s R c.args.out) (sym c.contest_of-contest.ensures) ∙ sym c.if-not-is_step.ensures in
    any_from_yields_List (λ x. has R x && ltb (shown ts x) (shown ts c.args.out)) _ _ c.any.result c.any.ensures.ran (YieldsList-from_range 1 (n + 1) n (cc) (omega arith)) (λ x b q k. search (rules, tests))
    ∙ some_fewer_any s (m.groups source) R c.args.out ts told.tallies n
    ∙ ap (λ k. some_fewer s (m.groups source) R c.args.out k.candidates) (c.candidates.ensures.value ∙ c.contest_of-contest.ensures)
    ∙ sym (ap (λ b. b && some_fewer s (m.groups source) R c.args.out s.candidates) step)
