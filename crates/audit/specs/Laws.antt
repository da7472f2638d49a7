-- What is proved of every history of a dossier, as closed statements.
use Rattle.std.specs.Prelude.{◌≡◌, ℕ, ◌+◌, ◌*◌, ◌<◌, ◌≤◌, List, map, length, Some, Ok, Err, Option, Result}
use Rattle.std.specs.List.{ContainsAt, AllByRecursion}
use Rattle.irv.specs.Ballots.{Slate, BallotGroup, ballots}
use Rattle.irv.specs.Orders.{CountOf}
use Rattle.irv.specs.Endings.{Alternative, elected, FirstStanding, Survivor, EndingsTried}
use Rattle.irv.specs.Assertions.{Holds, rules_any, ContradictedBy}
use Rattle.assertion.specs.Kinds.{value_kind, half_kind}
use Rattle.assertion.specs.declared.assertion.Assertion.{Assertion}
use Rattle.ballot.specs.declared.refusal.Refusal.{Refusal}
use Rattle.ballot.specs.declared.refusal.Refusal.TheVariants.{AssertionDoesNotHold}
use Rattle.audit.specs.Entries.{Entry, line_on, rules_of_entries, live_ruling}
use Rattle.audit.specs.Pages.{rounded_up, page}
use Rattle.audit.specs.States.{Opening, State, Standing, standing}
use Rattle.audit.specs.Calls.{Call, enters, checks, plans, ReplyTo, Replies, Answers, Finding, accepts, rejects, stops, most_endings, Event, entered}
use Rattle.audit.specs.Histories.{Turn, Run, events, given_in, live_in, IsLive, since_change, last_accepted, last_tallied, standing_by}

-- the live assertions contradict each order that elects another than the winner
abbrev pub AllContradicted : Slate → List Entry → ℕ → Type 0
AllContradicted s es winner = (p : List ℕ) → Alternative s winner p → ContradictedBy (rules_of_entries es) p

-- what a check replies for a limit within its range: found is the survivor, if there is one, and k the number of endings
-- tried up to it
pub record ChecksExactly (s : Slate) (es : List Entry) (winner limit : ℕ) (r : Result Finding Refusal) : Type 0 where
  pub found : Option (List ℕ)
  pub first : FirstStanding s (rules_any (rules_of_entries es)) winner found
  pub k : ℕ
  pub tried : EndingsTried s (live_ruling s es) winner found k
  -- stopped exactly if k exceeds the limit
  pub stopped : (limit < k → r ≡ Ok stops) × (r ≡ Ok stops → limit < k)
  -- else it accepts with k exactly if each order electing another is contradicted
  pub accepted : (k ≤ limit → AllContradicted s es winner → r ≡ Ok (accepts k)) × ((n : ℕ) → r ≡ Ok (accepts n) → (n ≡ k) × ((k ≤ limit) × AllContradicted s es winner))
  -- else it rejects with k and the first order, written backwards, that is not contradicted
  pub rejected : (k ≤ limit → (o : List ℕ) → Survivor s (rules_any (rules_of_entries es)) winner o → r ≡ Ok (rejects o k)) × ((o : List ℕ) (n : ℕ) → r ≡ Ok (rejects o n) → (n ≡ k) × ((k ≤ limit) × Survivor s (rules_any (rules_of_entries es)) winner o))

-- what a plan rests on and shows: a check that accepted and a tally, both since the last change, and every live assertion
-- holding on the ballots of that tally; the page has K of the check, the number of ballots, and the margins on them
pub record PlanShows (o : Opening) (h : List Event) (bytes : List ℕ) : Type 0 where
  pub k : ℕ
  pub checked : last_accepted (since_change h) ≡ Some k
  pub groups : List BallotGroup
  pub tallied : last_tallied (since_change h) ≡ Some groups
  pub hold : AllByRecursion (λ e. Holds (value_kind e.assertion) (half_kind e.assertion) o.slate groups) (live_in h)
  pub shown : bytes ≡ page o.winner o.factor (ballots groups) k (map (line_on o.slate groups) (live_in h))

-- of the live assertions that do not hold on the ballots of the tally since the last change, n is the lowest number
pub record LowestFailing (o : Opening) (h : List Event) (n : ℕ) : Type 0 where
  pub groups : List BallotGroup
  pub tallied : last_tallied (since_change h) ≡ Some groups
  pub entry : Entry
  pub is_live : ContainsAt (live_in h) entry
  pub number : entry.number ≡ n
  pub fails : Holds (value_kind entry.assertion) (half_kind entry.assertion) o.slate groups → ⊥
  pub lower_hold : (e : Entry) → ContainsAt (live_in h) e → e.number < n → Holds (value_kind e.assertion) (half_kind e.assertion) o.slate groups

-- the last tally, and that every count of its ballots elects the winner, ties broken in any manner; neither the ballots
-- nor the live assertions are none
pub record WinnerCannotLose (o : Opening) (ts : List Turn) : Type 0 where
  pub groups : List BallotGroup
  pub last : last_tallied (events ts) ≡ Some groups
  pub elects : (order : List ℕ) → CountOf o.slate groups order → elected order ≡ o.winner
  pub some_ballots : 1 ≤ ballots groups
  pub some_live : 1 ≤ length (live_in (events ts))

-- some history in which a plan is answered
pub record SomePlan : Type 0 where
  pub opening : Opening
  pub turns : List Turn
  pub state : State
  pub room : ℕ
  pub bytes : List ℕ
  pub run : Run opening turns state
  pub answer : Answers (plans room) state (Ok bytes) state

pub record EveryHistory : Type 0 where
  -- all that replies depend on follows from the events so far, and so each reply does, and there is one reply only
  pub follows : (o : Opening) (ts : List Turn) (s : State) → Run o ts s → standing s ≡ standing_by o (events ts)
  pub replies : (o : Opening) (ts : List Turn) (s t : State) (call : Call) (r : ReplyTo call) → Run o ts s → Answers call s r t → Replies (standing_by o (events ts)) call r
  pub one_reply : (st : Standing) (call : Call) (r q : ReplyTo call) → Replies st call r → Replies st call q → r ≡ q
  -- live is what was entered and not withdrawn since
  pub live_means : (h : List Turn) (n : ℕ) (a : Assertion) → (ContainsAt (live_in (events h)) (record { number = n; assertion = a }) → IsLive (events h) n a) × (IsLive (events h) n a → ContainsAt (live_in (events h)) (record { number = n; assertion = a }))
  -- the number given is the next one, and was never given before
  pub number_new : (o : Opening) (ts : List Turn) (s t : State) (a : Assertion) (n : ℕ) → Run o ts s → Answers (enters a) s (Ok n) t → (n ≡ given_in (events ts) + 1) × ((b : Assertion) → ContainsAt (events ts) (entered n b) → ⊥)
  -- a check is exact after every history
  pub check_exact : (o : Opening) (ts : List Turn) (s t : State) (limit : ℕ) (r : ReplyTo (checks limit)) → 1 ≤ limit → limit ≤ most_endings → Run o ts s → Answers (checks limit) s r t → ChecksExactly o.slate (live_in (events ts)) o.winner limit r
  -- a plan rests on a check and a tally since the last change, and shows them
  pub plan_shows : (o : Opening) (ts : List Turn) (s t : State) (room : ℕ) (bytes : List ℕ) → Run o ts s → Answers (plans room) s (Ok bytes) t → PlanShows o (events ts) bytes
  -- a plan that is refused since an assertion does not hold names the lowest
  pub names_lowest : (o : Opening) (ts : List Turn) (s t : State) (room n : ℕ) → Run o ts s → Answers (plans room) s (Err (AssertionDoesNotHold n)) t → LowestFailing o (events ts) n
  -- no plan is answered for a winner who could lose
  pub no_plan_for_a_loser : (o : Opening) (ts : List Turn) (s t : State) (room : ℕ) (bytes : List ℕ) → Run o ts s → Answers (plans room) s (Ok bytes) t → WinnerCannotLose o ts
  -- there is a history in which a plan is answered
  pub some_plan : SomePlan
  -- rounding up gives the least whole number that is not below the quotient
  pub rounds_up : (x d : ℕ) → 1 ≤ d → (x ≤ rounded_up x d * d) × ((q : ℕ) → x ≤ q * d → rounded_up x d ≤ q)
