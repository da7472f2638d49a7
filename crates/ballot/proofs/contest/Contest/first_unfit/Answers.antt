use Rattle.std.proofs.Common.{sym}
use Rattle.ballot.specs.Values.{contest_slate}
use Rattle.ballot.proofs.Growing.{ranked_none, ranked_more}
use Rattle.ballot.proofs.contest.Contest.first_unfit.Goals as goal

pub loop-i-init : goal.loop-i-init
loop-i-init c = ranked_none (contest_slate c.args.self.now) c.new-seen.result c.new-seen.ensures

pub loop-i-preserved : goal.loop-i-preserved
loop-i-preserved c =
    ranked_more (contest_slate c.args.self.now) c.args.self.now.proper.1 c.loop-i.seen c.args.candidates.now c.loop-i.i c.loop-i-test.true c.loop-i.invariant c.insert.new.self c.insert.result (sym c.if-not-is_candidate.ensures) (sym c.if-has.ensures) c.insert.ensures.value c.insert.ensures.after
