-- The five calls on a dossier and the question for a margin: what each replies, and what it changes.
use Rattle.std.specs.Prelude.{◌≡◌, ℕ, zero, suc, ◌+◌, ◌-◌, ◌<◌, ◌≤◌, Bool, true, false, cond, ◌&&◌, List, [], ◌∷◌, ◌++◌, map, length, ℤ, pos, is_some, Some, None, Ok, Err, Option, Result, ◌==◌, int_lt, nat_le, nat_lt}
use Rattle.std.specs.Option.{unwrap_or, option_map}
use Rattle.irv.specs.Ballots.{Slate, BallotGroup, Fits, ballots}
use Rattle.irv.specs.Endings.{Ruling, FirstStanding, EndingsTried}
use Rattle.irv.specs.Assertions.{judged, margin}
use Rattle.ballot.specs.declared.refusal.Refusal.{Refusal}
use Rattle.ballot.specs.declared.refusal.Refusal.TheVariants.{DossierFull, NumberNotLive, LimitOutOfRange, OtherContest, NotChecked, NotTallied, AssertionDoesNotHold, BufferTooShort}
use Rattle.assertion.specs.Causes.{cause_refusal}
use Rattle.assertion.specs.Kinds.{written_kind, value_kind, top_kind, half_kind}
use Rattle.assertion.specs.declared.assertion.Assertion.{Assertion}
use Rattle.search.specs.EndingValues.{listing}
use Rattle.audit.specs.Entries.{Line, is_among, live_ruling}
use Rattle.audit.specs.Pages.{page}
use Rattle.audit.specs.States.{State, Totals, Standing, standing, first_some, unless_so, with_check, with_tally}
use Rattle.audit.specs.declared.records.AssertionRecord.{AssertionRecord}
use Rattle.audit.specs.declared.stage.Stage.TheVariants.{Plain}
use Rattle.audit.specs.declared.verdict.Verdict.{Verdict}
use Rattle.audit.specs.declared.verdict.Verdict.TheVariants.{Accepted, Rejected, Stopped}

-- the five calls: a tally is given what a source shows, and a plan how many bytes it may write
pub data Call : Type 0 where
  enters : Assertion → Call
  withdraws : ℕ → Call
  checks : ℕ → Call
  tallies : Slate → List BallotGroup → Call
  plans : ℕ → Call

-- what a check says: it accepts after so many endings, rejects with the survivor, or stops
pub data Finding : Type 0 where
  accepts : ℕ → Finding
  rejects : List ℕ → ℕ → Finding
  stops : Finding

-- the replies: a number given, nothing, a finding, nothing, the page
abbrev pub ReplyTo : Call → Type 0
ReplyTo (enters a) = Result ℕ Refusal
ReplyTo (withdraws n) = Result (Unit {0}) Refusal
ReplyTo (checks limit) = Result Finding Refusal
ReplyTo (tallies s gs) = Result (Unit {0}) Refusal
ReplyTo (plans room) = Result (List ℕ) Refusal

-- refused by the first cause that fits, and else answered
abbrev pub answered : {X : Type 0} → Option Refusal → X → Result X Refusal
answered None x = Ok x
answered (Some e) x = Err e

abbrev pub most_entered : ℕ
most_entered = 256

abbrev pub enter_reply : Standing → Assertion → Result ℕ Refusal
enter_reply st a =
    answered (first_some (option_map cause_refusal (judged st.opening.slate (written_kind a)) ∷ unless_so (nat_lt st.given most_entered) DossierFull ∷ [])) (st.given + 1)

abbrev pub not_live : Standing → ℕ → Option Refusal
not_live st n = unless_so (is_among n st.live) NumberNotLive

abbrev pub withdraw_reply : Standing → ℕ → Result (Unit {0}) Refusal
withdraw_reply st n = answered (not_live st n) tt

abbrev pub most_endings : ℕ
most_endings = 100000000

abbrev pub in_limits : ℕ → Bool
in_limits limit = nat_le 1 limit && nat_le limit most_endings

-- what is said where the survivor is found, or none, after k endings
abbrev pub Says : ℕ → Option (List ℕ) → ℕ → Finding → Type 0
Says limit found k (accepts n) = (found ≡ None) × ((n ≡ k) × (k ≤ limit))
Says limit found k (rejects o n) = (found ≡ Some o) × ((n ≡ k) × (k ≤ limit))
Says limit found k stops = limit < k

-- the finding of a search by the live assertions
pub record Finds (s : Slate) (r : Ruling) (winner limit : ℕ) (finding : Finding) : Type 0 where
  pub found : Option (List ℕ)
  pub first : FirstStanding s r winner found
  pub k : ℕ
  pub tried : EndingsTried s r winner found k
  pub said : Says limit found k finding

abbrev pub CheckReply : Standing → ℕ → Result Finding Refusal → Type 0
CheckReply st limit (Ok finding) = (in_limits limit ≡ true) × Finds st.opening.slate (live_ruling st.opening.slate st.live) st.opening.winner limit finding
CheckReply st limit (Err e) = (in_limits limit ≡ false) × (e ≡ LimitOutOfRange)

-- a source of another number of candidates is refused
abbrev pub tally_reply : Standing → Slate → Result (Unit {0}) Refusal
tally_reply st s = answered (unless_so (s.candidates == st.opening.slate.candidates) OtherContest) tt

abbrev pub not_checked : Standing → Option Refusal
not_checked st = unless_so (is_some st.checked) NotChecked

abbrev pub not_tallied : Standing → Option Refusal
not_tallied st = unless_so (is_some st.tallied) NotTallied

-- the totals of the tally, if there is one
abbrev pub no_totals : Totals
no_totals = record { ballots = 0; lines = [] }

abbrev pub totals : Standing → Totals
totals st = unwrap_or st.tallied no_totals

-- the lowest number of a line that does not hold: its margin is not above 0
abbrev pub first_failing : List Line → Option ℕ
first_failing [] = None
first_failing (l ∷ ls) = cond (int_lt (pos 0) l.margin) (first_failing ls) (Some l.entry.number)

abbrev pub page_of : Standing → List ℕ
page_of st = page st.opening.winner st.opening.factor (totals st).ballots (unwrap_or st.checked 0) (totals st).lines

abbrev pub page_fits : Standing → ℕ → Option Refusal
page_fits st room = unless_so (nat_le (length (page_of st)) room) (BufferTooShort (length (page_of st)))

abbrev pub plan_refusal : Standing → ℕ → Option Refusal
plan_refusal st room = first_some (not_checked st ∷ not_tallied st ∷ option_map AssertionDoesNotHold (first_failing (totals st).lines) ∷ page_fits st room ∷ [])

abbrev pub plan_reply : Standing → ℕ → Result (List ℕ) Refusal
plan_reply st room = answered (plan_refusal st room) (page_of st)

-- what a call replies
abbrev pub Replies : Standing → (call : Call) → ReplyTo call → Type 0
Replies st (enters a) r = r ≡ enter_reply st a
Replies st (withdraws n) r = r ≡ withdraw_reply st n
Replies st (checks limit) r = CheckReply st limit r
Replies st (tallies s gs) r = r ≡ tally_reply st s
Replies st (plans room) r = r ≡ plan_reply st room

-- what happened in a call that was not refused
pub data Event : Type 0 where
  entered : ℕ → Assertion → Event
  withdrawn : ℕ → Event
  accepted : ℕ → Event
  tallied : List BallotGroup → Event

-- a check that does not accept, a plan and every refusal are no event
abbrev pub event : (call : Call) → ReplyTo call → Option Event
event (enters a) (Ok n) = Some (entered n a)
event (enters a) (Err e) = None
event (withdraws n) (Ok u) = Some (withdrawn n)
event (withdraws n) (Err e) = None
event (checks limit) (Ok (accepts k)) = Some (accepted k)
event (checks limit) (Ok (rejects o k)) = None
event (checks limit) (Ok stops) = None
event (checks limit) (Err e) = None
event (tallies s gs) (Ok u) = Some (tallied gs)
event (tallies s gs) (Err e) = None
event (plans room) r = None

abbrev pub fresh : Assertion → AssertionRecord
fresh a = record { assertion = a; live = true; margin = pos 0 }

abbrev pub ended : AssertionRecord → AssertionRecord
ended r = record { assertion = r.assertion; live = false; margin = r.margin }

-- the records with the one at place i, from 0, changed by f
abbrev pub changed_at : (AssertionRecord → AssertionRecord) → ℕ → List AssertionRecord → List AssertionRecord
changed_at f i [] = []
changed_at f zero (r ∷ rs) = f r ∷ rs
changed_at f (suc i) (r ∷ rs) = r ∷ changed_at f i rs

-- a live record with its margin on these ballots
abbrev pub retallied : Slate → List BallotGroup → AssertionRecord → AssertionRecord
retallied s gs r = record { assertion = r.assertion; live = r.live; margin = cond r.live (margin (value_kind r.assertion) (half_kind r.assertion) s gs) r.margin }

-- the state after an event, and without one as before: an accepting check and a tally add their mark, and a change of the
-- list takes both away
abbrev pub after : Option Event → State → State
after None s = s
after (Some (entered n a)) s = record { opening = s.opening; records = s.records ++ (fresh a ∷ []); stage = Plain; endings = s.endings; ballots = s.ballots }
after (Some (withdrawn n)) s = record { opening = s.opening; records = changed_at ended (n - 1) s.records; stage = Plain; endings = s.endings; ballots = s.ballots }
after (Some (accepted k)) s = record { opening = s.opening; records = s.records; stage = with_check s.stage; endings = k; ballots = s.ballots }
after (Some (tallied gs)) s = record { opening = s.opening; records = map (retallied s.opening.slate gs) s.records; stage = with_tally s.stage; endings = s.endings; ballots = ballots gs }

-- a source shows groups that fit its contest, and nothing else is asked of a call
abbrev pub Shown : Call → Type 0
Shown (enters a) = Unit {0}
Shown (withdraws n) = Unit {0}
Shown (checks limit) = Unit {0}
Shown (tallies s gs) = Fits s gs
Shown (plans room) = Unit {0}

-- one call: what it replies in a state, and the state after
pub record Answers (call : Call) (s : State) (r : ReplyTo call) (t : State) : Type 0 where
  pub shown : Shown call
  pub reply : Replies (standing s) call r
  pub after_is : t ≡ after (event call r) s

-- the question for a live number's margin, which changes nothing: the margin, and the top of the assertion's values
abbrev pub margin_and_top : ℕ → List Line → ℤ × ℕ
margin_and_top n [] = (pos 0, 0)
margin_and_top n (l ∷ ls) = cond (l.entry.number == n) (l.margin, top_kind l.entry.assertion) (margin_and_top n ls)

abbrev pub margin_reply : Standing → ℕ → Result (ℤ × ℕ) Refusal
margin_reply st n = answered (first_some (not_live st n ∷ not_tallied st ∷ [])) (margin_and_top n (totals st).lines)

-- what a verdict of the code says
abbrev pub finding : Verdict → Finding
finding (Accepted k) = accepts k
finding (Rejected e k) = rejects (listing e) k
finding Stopped = stops

abbrev pub said : Result Verdict Refusal → Result Finding Refusal
said (Ok v) = Ok (finding v)
said (Err e) = Err e
