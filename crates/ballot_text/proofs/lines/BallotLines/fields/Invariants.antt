use Rattle.std.proofs.Common.{◌-◌, ◌<◌, ◌≤◌, length}
use Rattle.irv.specs.Ballots.{slate}
use Rattle.ballot_text.specs.Texts.{text_bytes}
use Rattle.ballot_text.proofs.Walking.{Passed}
use Rattle.ballot_text.proofs.lines.BallotLines.fields.Given as goal

abbrev pub invariant-loop-at : goal.invariant-loop-at
invariant-loop-at g l = Passed g.F.LineForm.form (slate l.self.contest.candidates) (text_bytes l.self.text.now) l.passed l.at × ((l.at ≤ length (text_bytes l.self.text.now)) × (l.passed < l.line))

abbrev pub decreases-loop-at : goal.decreases-loop-at
decreases-loop-at g l = l.line - l.passed
