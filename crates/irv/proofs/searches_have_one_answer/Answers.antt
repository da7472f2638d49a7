use Rattle.irv.proofs.Searching.{search_laws}
use Rattle.irv.proofs.searches_have_one_answer.Goals as goal

pub returns : goal.returns
returns c = search_laws
