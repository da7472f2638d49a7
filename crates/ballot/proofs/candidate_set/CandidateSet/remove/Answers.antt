use Rattle.std.proofs.Common.{◌≡◌, ◌-◌, ◌^◌, false, sym, ap, ◌∙◌, subst, arith}
use lib.Bits.{bit_xor}
use Rattle.std.proofs.lemmas.Nat.{one_shl}
use Rattle.irv.specs.Sets.{has, with}
use Rattle.irv.proofs.Bits.{taken_out}
use Rattle.ballot.proofs.Outside.{nobody_below, nobody_above}
use Rattle.ballot.proofs.candidate_set.CandidateSet.remove.Goals as goal

pub returns-else-not-has-clause-after : goal.returns-else-not-has-clause-after
returns-else-not-has-clause-after c =
    let R = c.self.inside.bits in
    let x = c.args.candidate in
    subst (λ S. (has (bit_xor R S) x ≡ false) × (with x (bit_xor R S) ≡ c.args.self.now)) (sym (one_shl (x - 1) 16 (omega arith)))
    (subst (λ S. (has (bit_xor R (2 ^ (x - 1))) x ≡ false) × (with x (bit_xor R (2 ^ (x - 1))) ≡ S)) c.self.view_is (taken_out R x (ap (λ S. has S x) c.self.view_is ∙ sym c.if-not-has.ensures)))

pub returns-in_default-clause-value : goal.returns-in_default-clause-value
returns-in_default-clause-value c = nobody_below c.args.self.now c.args.candidate (omega arith)

pub returns-in_default-2-clause-value : goal.returns-in_default-2-clause-value
returns-in_default-2-clause-value c = nobody_above c.args.self.now c.args.candidate (omega (arith, c.self.view_is, c.self.invariant)) (omega arith)
