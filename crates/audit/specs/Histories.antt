-- Histories of a dossier: every sequence of calls from its opening, and what is so after it by the events alone.
use Rattle.std.specs.Prelude.{◌≡◌, ℕ, ◌+◌, List, [], ◌∷◌, ◌++◌, map, Some, None, Option}
use Rattle.std.specs.Option.{option_map}
use Rattle.std.specs.List.{ContainsAt}
use Rattle.irv.specs.Ballots.{BallotGroup, ballots}
use Rattle.assertion.specs.declared.assertion.Assertion.{Assertion}
use Rattle.audit.specs.Entries.{Entry, without, line_on}
use Rattle.audit.specs.States.{Opening, State, Opens, Totals, Standing}
use Rattle.audit.specs.Calls.{Call, ReplyTo, Answers, Event, entered, withdrawn, accepted, tallied, event}

-- a call and its reply
pub record Turn : Type 0 where
  pub call : Call
  pub reply : ReplyTo call

-- a dossier that was opened so comes through these turns, the latest first, to the state
abbrev pub Run : Opening → List Turn → State → Type 0
Run o [] s = Opens o s
Run o (t ∷ ts) s = (before : State) × Run o ts before × Answers t.call before t.reply s

-- what happened in the turns, the latest first
abbrev pub then : Option Event → List Event → List Event
then None h = h
then (Some e) h = e ∷ h

abbrev pub events : List Turn → List Event
events [] = []
events (t ∷ ts) = then (event t.call t.reply) (events ts)

-- how many assertions were entered
abbrev pub given_in : List Event → ℕ
given_in [] = 0
given_in (entered n a ∷ h) = given_in h + 1
given_in (withdrawn n ∷ h) = given_in h
given_in (accepted k ∷ h) = given_in h
given_in (tallied gs ∷ h) = given_in h

-- the live assertions, in the order of entering
abbrev pub live_in : List Event → List Entry
live_in [] = []
live_in (entered n a ∷ h) = live_in h ++ (record { number = n; assertion = a } ∷ [])
live_in (withdrawn n ∷ h) = without n (live_in h)
live_in (accepted k ∷ h) = live_in h
live_in (tallied gs ∷ h) = live_in h

-- entered, and not withdrawn since
pub record IsLive (h : List Event) (n : ℕ) (a : Assertion) : Type 0 where
  pub since : List Event
  pub earlier : List Event
  pub parts : h ≡ since ++ (entered n a ∷ earlier)
  pub kept : ContainsAt since (withdrawn n) → ⊥

-- the events since the list of live assertions last changed
abbrev pub since_change : List Event → List Event
since_change [] = []
since_change (entered n a ∷ h) = []
since_change (withdrawn n ∷ h) = []
since_change (accepted k ∷ h) = accepted k ∷ since_change h
since_change (tallied gs ∷ h) = tallied gs ∷ since_change h

-- K of the last check that accepted, and the ballots of the last tally
abbrev pub last_accepted : List Event → Option ℕ
last_accepted [] = None
last_accepted (entered n a ∷ h) = last_accepted h
last_accepted (withdrawn n ∷ h) = last_accepted h
last_accepted (accepted k ∷ h) = Some k
last_accepted (tallied gs ∷ h) = last_accepted h

abbrev pub last_tallied : List Event → Option (List BallotGroup)
last_tallied [] = None
last_tallied (entered n a ∷ h) = last_tallied h
last_tallied (withdrawn n ∷ h) = last_tallied h
last_tallied (accepted k ∷ h) = last_tallied h
last_tallied (tallied gs ∷ h) = Some gs

-- the totals of a tally of these ballots
abbrev pub totals_on : Opening → List Event → List BallotGroup → Totals
totals_on o h gs = record { ballots = ballots gs; lines = map (line_on o.slate gs) (live_in h) }

-- all that a reply depends on, by the opening and the events alone
abbrev pub standing_by : Opening → List Event → Standing
standing_by o h = record {
  opening = o;
  given = given_in h;
  live = live_in h;
  checked = last_accepted (since_change h);
  tallied = option_map (totals_on o h) (last_tallied (since_change h));
}
