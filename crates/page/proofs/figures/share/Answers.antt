-- The quotient is the share, also where it is by 0.
use Rattle.audit.specs.Pages.{share}
use Rattle.page.proofs.Dividing.{divided}
use Rattle.page.proofs.figures.share.Goals as goal

pub returns : goal.returns
unfolding share
returns c = cc (divided c.checked_div.result _ _ c.checked_div.ensures)
