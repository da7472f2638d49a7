use Rattle.std.proofs.Common.{sym, rules}
use Rattle.ballot.specs.Values.{contest_slate}
use Rattle.assertion.proofs.Judging.{nen_of_members}
use Rattle.assertion.proofs.nen.NenAssorter.judge.Goals as goal

pub returns-in_err-require : goal.returns-in_err-require
returns-in_err-require c =
    let a = c.args.self.now in
    let law = nen_of_members (contest_slate c.args.contest) a.winner a.loser a.standing c.args.contest.proper.1 (sym c.in_ok-both_stand.ensures) (sym c.in_ok-all_stand.ensures) (sym c.in_ok-differ.ensures) in
    search rules

pub returns : goal.returns
returns c =
    let a = c.args.self.now in
    let law = nen_of_members (contest_slate c.args.contest) a.winner a.loser a.standing c.args.contest.proper.1 (sym c.in_ok-both_stand.ensures) (sym c.in_ok-all_stand.ensures) (sym c.in_ok-differ.ensures) in
    search rules
