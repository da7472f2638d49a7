use Rattle.irv.proofs.Laws.{tally_laws}
use Rattle.irv.proofs.tallies_stay_within_the_ballots.Goals as goal

pub returns : goal.returns
returns c = tally_laws
