-- The fields of a line of an opened text, and where there is no such line.
use Rattle.std.specs.Prelude.{◌≡◌, ℕ, ◌-◌, ◌<◌, ◌≤◌, List, ◌∷◌, length, take, drop}
use Rattle.irv.specs.Ballots.{slate}
use Rattle.ballot.specs.declared.refusal.Refusal.{Refusal}
use Rattle.ballot.specs.declared.refusal.Refusal.TheVariants.{PlaceOutOfRange}
use Rattle.forms.specs.Texts.{Holds}
use Rattle.forms.specs.Written.{Form, Line, written_ranking, text_of}
use Rattle.ballot_line.specs.Lines.{field_bytes, IsFirst, IsSecond}
use Rattle.ballot_text.specs.Texts.{text_bytes}
use Rattle.ballot_text.specs.declared.form.LineForm.{Ghosts}
use Rattle.ballot_text.specs.declared.lines.BallotLines.{BallotLines}
use Rattle.ballot_text.specs.declared.lines.fields.LineFields.{LineFields}

-- the text holds these lines
abbrev pub HasLines : {F : Type 0} {b : Ghosts F} → BallotLines F b → List Line → Type 0
HasLines {b = b} s ls = Holds b.form (slate s.contest.candidates) (text_bytes s.text.now) ls

-- x are the fields of the line with this number, from 1, and where it begins
pub record FieldsAmong (f : Form) (ls : List Line) (number : ℕ) (x : LineFields) : Type 0 where
  pub line : Line
  pub later : List Line
  pub some : 1 ≤ number
  pub stands : drop (number - 1) ls ≡ line ∷ later
  pub first_kind : IsFirst f x.first
  pub first_is : field_bytes x.first ≡ line.head
  pub second_kind : IsSecond x.second
  pub second_is : field_bytes x.second ≡ written_ranking line.numbers
  pub at_is : x.at ≡ length (text_of (take (number - 1) ls))

abbrev pub FieldsOfLine : {F : Type 0} {b : Ghosts F} → BallotLines F b → ℕ → LineFields → Type 0
FieldsOfLine {b = b} s number x = (ls : List Line) → HasLines s ls → FieldsAmong b.form ls number x

-- the number is 0, or there are fewer lines
abbrev pub NoSuchLine : {F : Type 0} {b : Ghosts F} → BallotLines F b → ℕ → Refusal → Type 0
NoSuchLine s number e = ((ls : List Line) → HasLines s ls → 1 ≤ number → length ls < number) × (e ≡ PlaceOutOfRange)

-- the part is the written identifier of the row with this number, from 1, and begins at this byte of the text, from 0
pub record IdentifierAmong (ls : List Line) (number : ℕ) (part : List ℕ) (at : ℕ) : Type 0 where
  pub line : Line
  pub later : List Line
  pub some : 1 ≤ number
  pub stands : drop (number - 1) ls ≡ line ∷ later
  pub part_is : part ≡ line.head
  pub at_is : at ≡ length (text_of (take (number - 1) ls))

abbrev pub IdentifierOfRow : {F : Type 0} {b : Ghosts F} → BallotLines F b → ℕ → List ℕ → ℕ → Type 0
IdentifierOfRow s number part at = (ls : List Line) → HasLines s ls → IdentifierAmong ls number part at
