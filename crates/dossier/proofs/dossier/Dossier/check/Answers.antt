-- The laws of every history.
use Rattle.audit.proofs.Histories.{every_history}
use Rattle.dossier.proofs.dossier.Dossier.check.Goals as goal

pub returns-then-not-contains-clause-laws : goal.returns-then-not-contains-clause-laws
returns-then-not-contains-clause-laws c = every_history

pub returns-clause-laws : goal.returns-clause-laws
returns-clause-laws c = every_history
