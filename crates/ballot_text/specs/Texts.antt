-- The bytes that a lent text holds.
use Rattle.std.specs.Prelude.{ℕ, List}
use Rattle.ballot_text.specs.declared.text.BallotText.{BallotText}

abbrev pub text_bytes : BallotText → List ℕ
text_bytes t = t.bytes.now
