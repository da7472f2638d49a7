use Rattle.audit.proofs.Histories.{every_history}
use Rattle.audit.proofs.histories_plan_for_no_loser.Goals as goal

pub returns : goal.returns
returns c = every_history
