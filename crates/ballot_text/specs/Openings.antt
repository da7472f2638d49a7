-- What opening a text answers.
use Rattle.std.specs.Prelude.{◌≡◌, ℕ, ◌⊎◌, List, map}
use Rattle.irv.specs.Ballots.{Slate, slate, Proper, ballots}
use Rattle.ballot.specs.declared.refusal.Refusal.TheVariants.{CandidatesOutOfRange}
use Rattle.forms.specs.Texts.{Holds, Cause, Faulty}
use Rattle.forms.specs.Written.{Form, Line, group_of}
use Rattle.ballot_line.specs.Faults.{cause_refusal}
use Rattle.ballot_text.specs.declared.fault.Fault.{Fault}

-- a contest that is refused has no place in the text
abbrev pub nowhere : Fault
nowhere = record { cause = CandidatesOutOfRange; line = 0; byte = 0 }

-- the text holds lines that have so many ballots together
pub record ReadsAll (f : Form) (s : Slate) (bs : List ℕ) (sum : ℕ) : Type 0 where
  pub lines : List Line
  pub holds : Holds f s bs lines
  pub sum_is : sum ≡ ballots (map group_of lines)

-- the text is refused for its first faulty line
pub record FaultyText (f : Form) (s : Slate) (bs : List ℕ) (e : Fault) : Type 0 where
  pub cause : Cause
  pub named : e.cause ≡ cause_refusal cause
  pub faulty : Faulty f s bs cause e.line e.byte

-- a contest of n is refused first, without a place; then the text
abbrev pub OpeningRefused : Form → ℕ → List ℕ → Fault → Type 0
OpeningRefused f n bs e = ((Proper (slate n) → ⊥) × (e ≡ nowhere)) ⊎ (Proper (slate n) × FaultyText f (slate n) bs e)
