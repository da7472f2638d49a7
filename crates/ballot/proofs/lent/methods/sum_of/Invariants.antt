use Rattle.std.proofs.Common.{◌≡◌, ◌≤◌, take, sum_by}
use Rattle.irv.specs.Ballots.{most_ballots}
use Rattle.ballot.proofs.lent.methods.sum_of.Given as goal

abbrev pub invariant-loop-group : goal.invariant-loop-group
invariant-loop-group l = (l.sum ≡ sum_by (λ g. g.count) (take l.group-index l.groups)) × (l.sum ≤ most_ballots)
