use Rattle.std.proofs.Common.{◌≡◌, ◌+◌, ◌&&◌, ltb, leb, ap, ◌∙◌, arith}
use Rattle.std.proofs.lemmas.Bool.Decides.{nat_tests}
use Rattle.ballot.proofs.Growing.{none_yet, up_by_one}
use Rattle.ballot.proofs.contest.Contest.everyone.Goals as goal

pub loop-candidate-init : goal.loop-candidate-init
loop-candidate-init c = none_yet c.new-all.result c.new-all.ensures

pub loop-candidate-preserved : goal.loop-candidate-preserved
loop-candidate-preserved c =
    up_by_one c.loop-candidate.all c.insert.new.self c.loop-candidate.candidate c.insert.result c.loop-candidate.auto.candidate (omega (arith, c.args.self.now.proper)) c.insert.ensures.value c.insert.ensures.after c.loop-candidate.invariant

pub returns-2 : goal.returns-2
returns-2 c x =
    let upper = up_by_one c.loop-candidate.all c.insert.new.self c.loop-candidate.candidate c.insert.result c.loop-candidate.auto.candidate (omega (arith, c.args.self.now.proper)) c.insert.ensures.value c.insert.ensures.after c.loop-candidate.invariant in
    let end : c.loop-candidate.candidate + 1 ≡ c.args.self.now.candidates + 1 = omega arith in
    upper x ∙ ap (λ k. leb 1 x && ltb x k) end ∙ grind (arith, nat_tests)
