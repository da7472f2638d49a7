use Rattle.std.proofs.Common.{◌*◌, ◌^◌, ◌<◌, ◌≤◌, sym, subst, arith}
use Rattle.ballot_line.proofs.Widths.{digits_length}
use Rattle.ballot_line.proofs.judge.digits.Goals as goal

pub returns-clause-value : goal.returns-clause-value
returns-clause-value c =
    sym (digits_length c.args.number c.ilog10.result (subst (λ m. 10 ^ c.ilog10.result ≤ m) c.max.ensures c.ilog10.ensures.power_le) (subst (λ m. m < 10 * 10 ^ c.ilog10.result) c.max.ensures c.ilog10.ensures.next_power_gt) (omega arith))
