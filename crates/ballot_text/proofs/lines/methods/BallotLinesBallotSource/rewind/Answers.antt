use Rattle.ballot_text.proofs.Placing.{again_at_start}
use Rattle.ballot_text.proofs.lines.methods.BallotLinesBallotSource.rewind.Goals as goal

pub invariant_of-self : goal.invariant_of-self
invariant_of-self g c = record { reading = search again_at_start }
