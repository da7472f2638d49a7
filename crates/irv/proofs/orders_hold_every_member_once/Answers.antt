use Rattle.irv.proofs.Laws.{order_laws}
use Rattle.irv.proofs.orders_hold_every_member_once.Goals as goal

pub returns : goal.returns
returns c = order_laws
