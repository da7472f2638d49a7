-- What an opened text stands for: its lines, how many ballots they have, and a place among them.
use Rattle.std.specs.Prelude.{◌≡◌, ℕ, ◌≤◌, List, map, length, take}
use Rattle.irv.specs.Ballots.{slate, ballots}
use Rattle.forms.specs.Texts.{Holds}
use Rattle.forms.specs.Written.{Form, Line, text_of, group_of}

-- the text holds these lines for a contest of n, with so many ballots; place lines stand before byte at
pub record Reading (f : Form) (n : ℕ) (bs : List ℕ) (sum at place : ℕ) : Type 0 where
  pub lines : List Line
  pub holds : Holds f (slate n) bs lines
  pub sum_is : sum ≡ ballots (map group_of lines)
  pub within : place ≤ length lines
  pub at_is : at ≡ length (text_of (take place lines))
