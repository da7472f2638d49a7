use Rattle.std.proofs.Common.{◌<◌, length, sym, refl, ap, arith}
use Rattle.std.proofs.lemmas.List.{length-take-le}
use Rattle.irv.proofs.Lists.{ranked_at_most_once}
use Rattle.fixed_list.specs.Lists.{listed}
use Rattle.fixed_list.proofs.Pushing.{room_left}
use Rattle.ballot.specs.Values.{contest_slate}
use Rattle.ballot.proofs.Growing.{unfit_somewhere, unfit_nowhere}
use Rattle.ballot.proofs.ranking.Ranking.new.Goals as goal

pub returns-then-is_some : goal.returns-then-is_some
returns-then-is_some c = (unfit_somewhere (contest_slate c.args.contest) c.args.candidates.now c.first_unfit.result c.first_unfit.ensures (sym c.if-is_some.ensures), refl)

pub unwrap-requires : goal.unwrap-requires
unwrap-requires c =
    let xs = c.args.candidates.now in
    let is = unfit_nowhere (contest_slate c.args.contest) xs c.first_unfit.result c.first_unfit.ensures (sym c.if-is_some.ensures) in
    let room : length (listed c.loop-candidate.list) < 16 = omega (arith, ap length c.loop-candidate.invariant, length-take-le c.loop-candidate.candidate-index xs, ranked_at_most_once (contest_slate c.args.contest) xs is, c.args.contest.proper, c.loop-candidate-test.true) in
    room_left 16 _ _ c.push.result _ c.push.ensures room
