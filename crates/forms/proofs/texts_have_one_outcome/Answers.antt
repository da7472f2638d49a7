use Rattle.forms.proofs.Outcome.{one_outcome}
use Rattle.forms.proofs.texts_have_one_outcome.Goals as goal

pub returns : goal.returns
returns c = one_outcome
