use Rattle.irv.proofs.Laws.{set_laws}
use Rattle.irv.proofs.sets_are_their_members.Goals as goal

pub returns : goal.returns
returns c = set_laws
