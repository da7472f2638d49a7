-- The list holds the candidates so far.
use Rattle.std.proofs.Common.{◌≡◌, take}
use Rattle.fixed_list.specs.Lists.{listed}
use Rattle.ballot.proofs.ranking.Ranking.new.Given as goal

abbrev pub invariant-loop-candidate : goal.invariant-loop-candidate
invariant-loop-candidate l = listed l.list ≡ take l.candidate-index l.candidates
