use Rattle.std.proofs.Common.{refl}
use Rattle.irv.specs.Sets.{empty}
use Rattle.ballot.proofs.candidate_set.CandidateSet.new.Goals as goal

pub returns : goal.returns
unfolding empty
returns c = refl
