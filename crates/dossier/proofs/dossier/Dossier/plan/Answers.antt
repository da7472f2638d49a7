-- The laws of every history.
use Rattle.audit.proofs.Histories.{every_history}
use Rattle.dossier.proofs.dossier.Dossier.plan.Goals as goal

pub returns-in_err-may_answer-clause-laws : goal.returns-in_err-may_answer-clause-laws
returns-in_err-may_answer-clause-laws c = every_history

pub returns-in-Some-clause-laws : goal.returns-in-Some-clause-laws
returns-in-Some-clause-laws c = every_history

pub returns-then-needed-page-clause-laws : goal.returns-then-needed-page-clause-laws
returns-then-needed-page-clause-laws c = every_history

pub returns-clause-laws : goal.returns-clause-laws
returns-clause-laws c = every_history
