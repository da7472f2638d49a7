-- What a dossier stands for, and what its parts promise.
use Rattle.std.specs.Prelude.{◌≡◌, ℕ, ◌+◌, ◌<◌, true, false, cond, List, [], ◌∷◌, ◌++◌, length, take, drop, Some, None, Ok, Err, vec_items, Option, Result, MatchResult, unsigned_abs}
use Rattle.irv.specs.Ballots.{slate}
use Rattle.ballot.specs.declared.refusal.Refusal.{Refusal}
use Rattle.ballot.specs.declared.refusal.Refusal.TheVariants.{NumberNotLive, NotChecked, NotTallied}
use Rattle.assertion.specs.Kinds.{top_kind}
use Rattle.audit.specs.Entries.{lines_from, is_among}
use Rattle.audit.specs.Pages.{page, sample}
use Rattle.audit.specs.Calls.{page_of}
use Rattle.audit.specs.States.{Opening, State, standing, has_check, has_tally, with_check, with_tally, first_some, unless_so, opening_refusal}
use Rattle.audit.specs.declared.records.AssertionRecord.{AssertionRecord}
use Rattle.audit.specs.declared.stage.Stage.{Stage}
use Rattle.audit.specs.declared.stage.Stage.TheVariants.{Plain}
use Rattle.dossier.specs.declared.dossier.Dossier.{Dossier}
use Rattle.dossier.specs.declared.event.StageEvent.{StageEvent}
use Rattle.dossier.specs.declared.event.StageEvent.TheVariants.{Entered, Withdrawn, Accepted, Tallied}
use Rattle.dossier.specs.declared.event.StageQuestion.{StageQuestion}
use Rattle.dossier.specs.declared.event.StageQuestion.TheVariants.{Plan, Margin}
use Rattle.dossier.specs.declared.open_error.OpenError.{OpenError}
use Rattle.dossier.specs.declared.open_error.OpenError.TheVariants.{Refused, OutOfMemory}

abbrev pub state : Dossier → State
state d = record {
  opening = record { slate = slate d.contest.candidates; winner = d.winner; factor = d.factor };
  records = vec_items d.records;
  stage = d.stage;
  endings = d.endings;
  ballots = d.ballots;
}

-- why a dossier is not opened; memory is wanted only where nothing is refused
abbrev pub NotOpened : Opening → OpenError → Type 0
NotOpened o (Refused e) = opening_refusal o ≡ Some e
NotOpened o OutOfMemory = opening_refusal o ≡ None

-- where an event leads from a stage
abbrev pub stage_after : StageEvent → Stage → Stage
stage_after Entered g = Plain
stage_after Withdrawn g = Plain
stage_after Accepted g = with_check g
stage_after Tallied g = with_tally g

-- the first mark that a question lacks at a stage
abbrev pub lacking : StageQuestion → Stage → Option Refusal
lacking Plan g = first_some (unless_so (has_check g) NotChecked ∷ unless_so (has_tally g) NotTallied ∷ [])
lacking Margin g = unless_so (has_tally g) NotTallied

abbrev pub at_stage : Stage → State → State
at_stage g s = record { opening = s.opening; records = s.records; stage = g; endings = s.endings; ballots = s.ballots }

-- the place, from 0, of the live record with this number, or that there is none
abbrev pub LivePlace : State → ℕ → Result ℕ Refusal → Type 0
LivePlace s n r =
    MatchResult r (λ i. (is_among n (standing s).live ≡ true) × ((i + 1 ≡ n) × (i < length s.records))) (λ e. (is_among n (standing s).live ≡ false) × (e ≡ NumberNotLive))

-- how many ballots to pull for a record: none where it is not live
abbrev pub pulled_for : ℕ → ℕ → AssertionRecord → ℕ
pulled_for factor ballots r = cond r.live (sample factor (top_kind r.assertion) (unsigned_abs r.margin) ballots) 0

-- the page by what the dossier holds now, whatever its marks
abbrev pub page_shown : Dossier → List ℕ
page_shown d = page d.winner d.factor d.ballots d.endings (lines_from 1 (vec_items d.records))

-- the bytes of the page that a plan wrote, by its answer and the buffer after it
abbrev pub planned : Result ℕ Refusal → List ℕ → Result (List ℕ) Refusal
planned (Ok n) bytes = Ok (take n bytes)
planned (Err e) bytes = Err e

-- the page's length is answered, and the bytes behind the page are as before; a refusal leaves every byte
abbrev pub Written : State → Result ℕ Refusal → List ℕ → List ℕ → Type 0
Written s r old new = MatchResult r (λ n. (n ≡ length (page_of (standing s))) × (new ≡ page_of (standing s) ++ drop n old)) (λ e. new ≡ old)
