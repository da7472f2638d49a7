use Rattle.std.proofs.Common.{arith}
use Rattle.std.proofs.lemmas.Result.{err_from_is_err_and}
use Rattle.ballot_line.proofs.Steps.{number_first, number_more, number_zero, number_outside, number_long, number_none}
use Rattle.ballot_line.proofs.token.number.Goals as goal

pub returns-in_err-number : goal.returns-in_err-number
returns-in_err-number c = let p = err_from_is_err_and c.from_residual.result c.from_residual.ensures.1 in rw (p.1, p.2) (let h = c.in_err-number.ensures in number_none _ _ h.0 h.1)

pub returns-then-number-eq0 : goal.returns-then-number-eq0
returns-then-number-eq0 c = let h = c.in_ok-number.ensures in number_zero _ _ _ (omega arith) h.1

pub loop-number-init : goal.loop-number-init
loop-number-init c = let h = c.in_ok-number.ensures in number_first _ _ _ (omega arith) h.0 h.1

pub returns-in_default : goal.returns-in_default
returns-in_default c = number_outside _ _ _ c.loop-number.invariant c.in_default.ensures.1

pub loop-number-preserved : goal.loop-number-preserved
loop-number-preserved c = let h = c.in-Ok.ensures in number_more _ _ _ _ _ c.loop-number.invariant c.loop-number-test.true h.0 h.1

pub returns : goal.returns
returns c = number_long _ _ _ c.loop-number.invariant (omega arith)
