use Rattle.std.proofs.Common.{refl}
use Rattle.irv.specs.Sets.{within}
use Rattle.ballot.proofs.candidate_set.CandidateSet.within.Goals as goal

pub returns : goal.returns
unfolding within
returns c = rw (← c.self.view_is, ← c.other.view_is) refl
