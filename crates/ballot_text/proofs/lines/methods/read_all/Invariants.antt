use Rattle.std.proofs.Common.{length}
use Rattle.ballot.specs.Values.{contest_slate}
use Rattle.ballot_line.specs.Forms.{form_of}
use Rattle.ballot_text.specs.Texts.{text_bytes}
use Rattle.ballot_text.proofs.Opening.{ReadTo}
use Rattle.ballot_text.proofs.lines.methods.read_all.Given as goal

abbrev pub invariant-loop-left : goal.invariant-loop-left
invariant-loop-left l = ReadTo (form_of l.form) (contest_slate l.contest) (text_bytes l.text) l.left l.line l.sum

abbrev pub decreases-loop-left : goal.decreases-loop-left
decreases-loop-left l = length l.left
