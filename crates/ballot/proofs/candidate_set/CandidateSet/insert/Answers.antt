use Rattle.std.proofs.Common.{◌-◌, ap, ◌∙◌, arith}
use lib.Bits.{bit_or}
use Rattle.std.proofs.lemmas.Nat.{one_shl}
use Rattle.irv.specs.Sets.{with}
use Rattle.irv.proofs.Bits.{with_by_or}
use Rattle.ballot.proofs.candidate_set.CandidateSet.insert.Goals as goal

pub returns-in-1-to-16-clause-after : goal.returns-in-1-to-16-clause-after
returns-in-1-to-16-clause-after c =
    ap (bit_or c.self.inside.bits) (one_shl (c.args.candidate - 1) 16 (omega arith)) ∙ with_by_or c.self.inside.bits c.args.candidate (omega arith) ∙ ap (with c.args.candidate) c.self.view_is
