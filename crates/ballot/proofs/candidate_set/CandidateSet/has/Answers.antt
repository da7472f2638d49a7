use Rattle.std.proofs.Common.{ap, ◌∙◌, arith}
use Rattle.irv.specs.Sets.{has}
use Rattle.irv.proofs.Bits.{has_by_mask}
use Rattle.ballot.proofs.Outside.{nobody_below, nobody_above}
use Rattle.ballot.proofs.candidate_set.CandidateSet.has.Goals as goal

pub returns-in_default : goal.returns-in_default
returns-in_default c = nobody_below c.args.self.now c.args.candidate (omega arith)

pub returns-in_default-2 : goal.returns-in_default-2
returns-in_default-2 c = nobody_above c.args.self.now c.args.candidate (omega (arith, c.self.view_is, c.self.invariant)) (omega arith)

pub returns-in-1-to-16 : goal.returns-in-1-to-16
returns-in-1-to-16 c = has_by_mask c.self.inside.bits c.args.candidate (omega arith) ∙ ap (λ R. has R c.args.candidate) c.self.view_is
