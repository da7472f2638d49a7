use Rattle.std.proofs.Common.{rules, refl, ap, subst}
use Rattle.ballot.specs.Values.{contest_slate}
use Rattle.forms.specs.Texts.{Holds}
use Rattle.ballot_text.specs.Openings.{ReadsAll}
use Rattle.ballot_text.specs.Sound.{holds_groups}
use Rattle.ballot_text.specs.Texts.{text_bytes}
use Rattle.ballot_text.proofs.lines.BallotLines.open.Goals as goal

pub returns : goal.returns
returns g c =
    let f = g.F.LineForm.form in
    let s = contest_slate c.in_ok-contest.contest in
    let bs = text_bytes c.args.text.now in
    let all : ReadsAll f s bs c.in_ok-ballots.ballots = subst (λ h. ReadsAll h s bs c.in_ok-ballots.ballots) (search rules) c.in_ok-ballots.ensures in
    record {
      proper = c.in_ok-contest.ensures.0;
      contest_is = ap (λ s. s.candidates) c.in_ok-contest.ensures.1;
      text_is = refl;
      lines = all.lines;
      holds = subst (λ s. Holds f s bs all.lines) c.in_ok-contest.ensures.1 all.holds;
      groups_are = holds_groups f s bs all.lines all.holds;
      start = refl;
    }
