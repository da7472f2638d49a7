use Rattle.ballot_text.specs.Sound.{reading_sum}
use Rattle.ballot_text.specs.Texts.{text_bytes}
use Rattle.ballot_text.proofs.lines.methods.BallotLinesBallotSource.ballots.Goals as goal

pub returns : goal.returns
returns g c =
    let s = c.args.self.now in
    reading_sum g.F.LineForm.form s.contest.candidates (text_bytes s.text.now) s.ballots s.at s.place s.reading
