-- What the lines of a text stand for as a ballot source.
use Rattle.std.specs.Prelude.{◌≡◌, ℕ, List, map}
use Rattle.irv.specs.Ballots.{slate, Proper, BallotGroup}
use Rattle.ballot.specs.Sources.{SoundSource}
use Rattle.ballot.specs.Values.{contest_slate}
use Rattle.forms.specs.Decoded.{decoded}
use Rattle.forms.specs.Texts.{Holds}
use Rattle.forms.specs.Written.{Line, group_of}
use Rattle.ballot_text.specs.Sound.{reading_sound}
use Rattle.ballot_text.specs.Texts.{text_bytes}
use Rattle.ballot_text.specs.declared.form.LineForm.{Ghosts}
use Rattle.ballot_text.specs.declared.lines.BallotLines.{BallotLines}

-- the groups of the text's lines
abbrev pub line_groups : {F : Type 0} {b : Ghosts F} → BallotLines F b → List BallotGroup
line_groups {b = b} s = decoded b.form (text_bytes s.text.now)

pub lines_sound : {F : Type 0} {b : Ghosts F} (s : BallotLines F b) → SoundSource (contest_slate s.contest) (line_groups s) s.place
lines_sound {b = b} s = reading_sound b.form s.contest.candidates (text_bytes s.text.now) s.ballots s.at s.place s.contest.proper s.reading

-- a source for a contest of n that holds exactly the groups written, at its start
pub record OpenedText {F : Type 0} {b : Ghosts F} (n : ℕ) (bs : List ℕ) (s : BallotLines F b) : Type 0 where
  pub proper : Proper (slate n)
  pub contest_is : s.contest.candidates ≡ n
  pub text_is : text_bytes s.text.now ≡ bs
  pub lines : List Line
  pub holds : Holds b.form (slate n) bs lines
  pub groups_are : line_groups s ≡ map group_of lines
  pub start : s.place ≡ 0
