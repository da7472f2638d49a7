-- What a dossier holds, and what of it a reply depends on.
use Rattle.std.specs.Prelude.{◌≡◌, ℕ, Bool, true, false, cond, ◌&&◌, List, [], ◌∷◌, length, Some, None, Option, nat_le}
use Rattle.irv.specs.Ballots.{Slate, slate, member}
use Rattle.ballot.specs.declared.refusal.Refusal.{Refusal}
use Rattle.ballot.specs.declared.refusal.Refusal.TheVariants.{CandidatesOutOfRange, WinnerNotCandidate, FactorOutOfRange}
use Rattle.audit.specs.Entries.{Entry, Line, lines_from, entries}
use Rattle.audit.specs.declared.records.AssertionRecord.{AssertionRecord}
use Rattle.audit.specs.declared.stage.Stage.{Stage}
use Rattle.audit.specs.declared.stage.Stage.TheVariants.{Plain, Checked, Tallied, Ready}

-- what a dossier is opened for; the factor is in thousandths
pub record Opening : Type 0 where
  pub slate : Slate
  pub winner : ℕ
  pub factor : ℕ

abbrev pub opening : ℕ → ℕ → ℕ → Opening
opening n winner factor = record { slate = slate n; winner = winner; factor = factor }

abbrev pub most_factor : ℕ
most_factor = 1000000

-- the first that there is
abbrev pub first_some : {X : Type 0} → List (Option X) → Option X
first_some [] = None
first_some (None ∷ xs) = first_some xs
first_some (Some x ∷ xs) = Some x

-- e refuses unless the fact is so
abbrev pub unless_so : Bool → Refusal → Option Refusal
unless_so fact e = cond fact None (Some e)

-- why nothing is opened: the first cause that fits
abbrev pub opening_refusal : Opening → Option Refusal
opening_refusal o =
    first_some (unless_so (nat_le 2 o.slate.candidates && nat_le o.slate.candidates 16) CandidatesOutOfRange ∷ unless_so (member o.slate o.winner) WinnerNotCandidate ∷ unless_so (nat_le 1 o.factor && nat_le o.factor most_factor) FactorOutOfRange ∷ [])

-- what a dossier holds: every assertion ever entered, in order; the stage; K of the last accepting check and the number
-- of ballots of the last tally, each of which counts only under its mark
pub record State : Type 0 where
  pub opening : Opening
  pub records : List AssertionRecord
  pub stage : Stage
  pub endings : ℕ
  pub ballots : ℕ

-- a new dossier is plain and holds no assertion
abbrev pub opened : Opening → State
opened o = record { opening = o; records = []; stage = Plain; endings = 0; ballots = 0 }

abbrev pub Opens : Opening → State → Type 0
Opens o s = (opening_refusal o ≡ None) × (s ≡ opened o)

-- the marks of a stage
abbrev pub has_check : Stage → Bool
has_check Plain = false
has_check Checked = true
has_check Tallied = false
has_check Ready = true

abbrev pub has_tally : Stage → Bool
has_tally Plain = false
has_tally Checked = false
has_tally Tallied = true
has_tally Ready = true

-- a stage with one mark more
abbrev pub with_check : Stage → Stage
with_check Plain = Checked
with_check Checked = Checked
with_check Tallied = Ready
with_check Ready = Ready

abbrev pub with_tally : Stage → Stage
with_tally Plain = Tallied
with_tally Checked = Ready
with_tally Tallied = Tallied
with_tally Ready = Ready

-- how many ballots a tally read, and the live assertions with their margins on them
pub record Totals : Type 0 where
  pub ballots : ℕ
  pub lines : List Line

-- all that a reply depends on: how many numbers were given, the live assertions ascending, K of a check that accepted
-- and the totals of a tally, both since the last change
pub record Standing : Type 0 where
  pub opening : Opening
  pub given : ℕ
  pub live : List Entry
  pub checked : Option ℕ
  pub tallied : Option Totals

abbrev pub under : {X : Type 0} → Bool → X → Option X
under mark x = cond mark (Some x) None

abbrev pub standing : State → Standing
standing s = record {
  opening = s.opening;
  given = length s.records;
  live = entries (lines_from 1 s.records);
  checked = under (has_check s.stage) s.endings;
  tallied = under (has_tally s.stage) (record { ballots = s.ballots; lines = lines_from 1 s.records });
}
