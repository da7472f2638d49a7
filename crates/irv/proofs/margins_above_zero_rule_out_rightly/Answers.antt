use Rattle.irv.proofs.Assertions.{assertion_laws}
use Rattle.irv.proofs.margins_above_zero_rule_out_rightly.Goals as goal

pub returns : goal.returns
returns c = assertion_laws
