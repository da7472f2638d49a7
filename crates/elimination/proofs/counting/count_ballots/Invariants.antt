-- What the loop over the steps keeps true.
use Rattle.std.proofs.Common.{◌≡◌, ◌+◌, length}
use Rattle.irv.proofs.Paths.{Leads}
use Rattle.fixed_list.specs.Lists.{listed}
use Rattle.ballot.specs.Sources.{SameBallots}
use Rattle.elimination.proofs.Tabling.{outs, tables}
use Rattle.elimination.proofs.counting.count_ballots.Given as goal

-- the source is the one of the loop's start, but for its place, and the steps so far lead from everybody to those who are left
abbrev pub invariant-loop : goal.invariant-loop
invariant-loop g l =
    let m = g.S.BallotSource in
    record {
      same : SameBallots m.contest m.groups l.initial.source l.source;
      many : length (listed l.steps) + 1 ≡ l.counter;
      path : Leads outs tables (m.contest l.initial.source) (m.groups l.initial.source) l.initial.left (listed l.steps) l.left;
    }
