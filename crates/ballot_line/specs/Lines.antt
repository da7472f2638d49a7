-- What it is to read a line off the front of a text.
use Rattle.std.specs.Prelude.{◌≡◌, ℕ, List, [], ◌++◌, length, drop}
use Rattle.fixed_list.specs.Lists.{listed}
use Rattle.forms.specs.Written.{Form, row_lines, group_lines, Line, WellFormed, IsHead, written_ranking, line_bytes}
use Rattle.forms.specs.Fronts.{Ends, HeadOf}
use Rattle.ballot_line.specs.declared.field.Field.{Field}
use Rattle.ballot_line.specs.declared.field.Field.TheVariants.{Identifier, Count, Ranking}
use Rattle.ballot_line.specs.declared.line.LineRead.{LineRead}

-- a field's part of the text
abbrev pub field_bytes : Field → List ℕ
field_bytes (Identifier part) = part.now
field_bytes (Count part) = part.now
field_bytes (Ranking part) = part.now

-- a row begins with an identifier and a group line with a count
abbrev pub IsFirst : Form → Field → Type 0
IsFirst row_lines (Identifier part) = Unit {0}
IsFirst row_lines (Count part) = ⊥
IsFirst row_lines (Ranking part) = ⊥
IsFirst group_lines (Identifier part) = ⊥
IsFirst group_lines (Count part) = Unit {0}
IsFirst group_lines (Ranking part) = ⊥

abbrev pub IsSecond : Field → Type 0
IsSecond (Identifier part) = ⊥
IsSecond (Count part) = ⊥
IsSecond (Ranking part) = Unit {0}

-- the longest first field in front of bs, and rest follows it
pub record TakesHead (f : Form) (bs : List ℕ) (field : Field) (count : ℕ) (rest : List ℕ) : Type 0 where
  pub kind : IsFirst f field
  pub formed : IsHead f (field_bytes field) count
  pub split : bs ≡ field_bytes field ++ rest
  pub ends : Ends (HeadOf f) (field_bytes field) rest

-- no first field stands in front of bs, and all of it is left
pub record NoHead (f : Form) (bs rest : List ℕ) : Type 0 where
  pub all : rest ≡ bs
  pub missing : Ends (HeadOf f) [] bs

-- the line that was read
abbrev pub line_of : LineRead → Line
line_of r = record { head = field_bytes r.first; count = r.count; numbers = listed r.numbers }

-- r is a well-formed line that stands in front of bs, its fields are those parts of it, and length is how long it is
pub record ReadsLine (f : Form) (bs : List ℕ) (r : LineRead) : Type 0 where
  pub formed : WellFormed f (line_of r)
  pub split : bs ≡ line_bytes (line_of r) ++ drop r.length bs
  pub long : r.length ≡ length (line_bytes (line_of r))
  pub first : IsFirst f r.first
  pub second : IsSecond r.second
  pub ranking : field_bytes r.second ≡ written_ranking (line_of r).numbers
