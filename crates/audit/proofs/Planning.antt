-- Where a plan is answered, every count of the ballots of the last tally elects the winner. Of the assertions this uses
-- the law that every kind obeys, and nothing of the kinds.
use Rattle.std.proofs.Common.{◌≡◌, ℕ, ◌≤◌, Bool, true, false, cond, not, eqb, leb, List, [], ◌∷◌, map, length, ℤ, pos, ◌<ℤ◌, is_some, Some, None, Ok, Err, Option, unwrap_or, sym, refl, ap, ◌∙◌, subst, ⊎_elim, arith}
use lib.Signed.{lt_z}
use Rattle.std.proofs.ByRecursion.{All-push, all_kept_by}
use Rattle.std.proofs.lemmas.Int.{ints}
use Rattle.std.proofs.lemmas.Bool.{eqb-true, and_parts, leb-true, cases_eq}
use Rattle.std.specs.Option.{option_map}
use Rattle.std.specs.List.{AllByRecursion}
use Rattle.irv.specs.Ballots.{Slate, slate, BallotGroup, ballots, Fits, Proper}
use Rattle.irv.specs.Endings.{elected, FirstStanding}
use Rattle.irv.specs.Assertions.{judged, Holds, rules_any}
use Rattle.irv.specs.AssertionLaws.{SoundAssorter}
use Rattle.irv.proofs.Assertions.{none_ruled, all_stand}
use Rattle.ballot.specs.declared.refusal.Refusal.TheVariants.{NotTallied, AssertionDoesNotHold}
use Rattle.assertion.specs.Causes.{cause_refusal}
use Rattle.assertion.specs.Kinds.{written_kind, value_kind, top_kind, half_kind, rules_kind}
use Rattle.assertion.specs.Sound.{any_kind_law}
use Rattle.assertion.proofs.Summing.{sum_small}
use Rattle.audit.specs.Entries.{Entry, line_on, rules_of_entries}
use Rattle.audit.specs.Pages.{page}
use Rattle.audit.specs.States.{Opening, State, Standing, opening_refusal, first_some}
use Rattle.audit.specs.Calls.{Call, enters, withdraws, checks, tallies, plans, ReplyTo, Replies, Answers, Shown, accepts, rejects, stops, first_failing, not_checked, not_tallied, page_fits, plan_refusal, totals, no_totals, Event, entered, withdrawn, accepted, tallied, event}
use Rattle.audit.specs.Histories.{Turn, Run, then, events, live_in, since_change, last_accepted, last_tallied, totals_on, standing_by}
use Rattle.audit.specs.Laws.{AllContradicted, PlanShows, WinnerCannotLose}
use Rattle.audit.proofs.Following.{ok_answered, so_none, replies}
use Rattle.audit.proofs.Limiting.{first_limited}
use Rattle.audit.proofs.Others.{another_order}

abbrev Fine : Opening → Entry → Type 0
Fine o e = judged o.slate (written_kind e.assertion) ≡ None

-- what every history keeps: the live assertions fit, an acceptance that stands is right, and a tally that stands is of
-- groups that fit
record Kept (o : Opening) (h : List Event) : Type 0 where
  fine : AllByRecursion (Fine o) (live_in h)
  right : (k : ℕ) → last_accepted (since_change h) ≡ Some k → AllContradicted o.slate (live_in h) o.winner
  fits : (gs : List BallotGroup) → last_tallied (since_change h) ≡ Some gs → Fits o.slate gs

none_some : {X Y : Type 0} (x : X) → None ≡ Some x → Y
none_some x is = let z : ◌≡◌ {A = ℕ} 0 1 = cc in absurd (omega arith)

-- what it means that no cause is found
none_of : {X : Type 0} (x : Option X) (xs : List (Option X)) → first_some (x ∷ xs) ≡ None → (x ≡ None) × (first_some xs ≡ None)
none_of None xs h = (refl, h)
none_of (Some c) xs h = let z : ◌≡◌ {A = ℕ} 0 1 = cc in absurd (omega arith)

mapped_none : {X Y : Type 0} (f : X → Y) (x : Option X) → option_map f x ≡ None → x ≡ None
mapped_none f None is = refl
mapped_none f (Some x) is = none_some (f x) (sym is)

-- a change of the list takes all marks away
changed : (o : Opening) (h : List Event) → AllByRecursion (Fine o) (live_in h) → since_change h ≡ [] → Kept o h
changed o h fine none = record {
  fine = fine;
  right = λ k is. none_some k (ap last_accepted (sym none) ∙ is);
  fits = λ gs is. none_some gs (ap last_tallied (sym none) ∙ is);
}

keep : (o : Opening) (h : List Event) → Kept o h → (call : Call) (r : ReplyTo call) → Shown call → Replies (standing_by o h) call r → Kept o (then (event call r) h)
keep o h kept (enters a) (Ok n) shown reply =
    let fits : judged o.slate (written_kind a) ≡ None = mapped_none cause_refusal _ (none_of _ _ (ok_answered _ _ _ reply).0).0 in
    changed o (entered n a ∷ h) (All-push (Fine o) (live_in h) (record { number = n; assertion = a }) kept.fine fits) refl
keep o h kept (enters a) (Err e) shown reply = kept
keep o h kept (withdraws n) (Ok u) shown reply = changed o (withdrawn n ∷ h) (all_kept_by (λ e. not (eqb e.number n)) (Fine o) (live_in h) kept.fine) refl
keep o h kept (withdraws n) (Err e) shown reply = kept
keep o h kept (checks limit) (Ok (accepts k)) shown reply =
    let finds = reply.1 in
    let R = rules_any (rules_of_entries (live_in h)) in
    record {
      fine = kept.fine;
      right = λ j is. subst (λ found. FirstStanding o.slate R o.winner found) finds.said.0 (first_limited o.slate R o.winner finds.found finds.first);
      fits = kept.fits;
    }
keep o h kept (checks limit) (Ok (rejects p k)) shown reply = kept
keep o h kept (checks limit) (Ok stops) shown reply = kept
keep o h kept (checks limit) (Err e) shown reply = kept
keep o h kept (tallies s gs) (Ok u) shown reply =
    let same : s.candidates ≡ o.slate.candidates = eqb-true _ _ (so_none _ _ (ok_answered _ _ _ reply).0) in
    record {
      fine = kept.fine;
      right = kept.right;
      fits = λ hs is. let e : gs ≡ hs = cc in subst (Fits o.slate) e (subst (λ n. Fits (slate n) gs) same shown);
    }
keep o h kept (tallies s gs) (Err e) shown reply = kept
keep o h kept (plans room) r shown reply = kept

always_kept : (o : Opening) (ts : List Turn) (s : State) → Run o ts s → Kept o (events ts)
always_kept o [] s run = changed o [] tt refl
always_kept o (t ∷ ts) s run = keep o (events ts) (always_kept o ts run.0 run.1) t.call t.reply run.2.shown (replies o ts run.0 s t.call t.reply run.1 run.2)

-- a tally that stands is the last one
last_stands : (h : List Event) (gs : List BallotGroup) → last_tallied (since_change h) ≡ Some gs → last_tallied h ≡ Some gs
last_stands [] gs is = is
last_stands (entered n a ∷ h) gs is = none_some gs is
last_stands (withdrawn n ∷ h) gs is = none_some gs is
last_stands (accepted k ∷ h) gs is = last_stands h gs is
last_stands (tallied hs ∷ h) gs is = is

-- where no line fails, all hold
pub above_zero : (m : ℤ) → lt_z (pos 0) m ≡ true → pos 0 <ℤ m
above_zero m is = grind (arith, ints)

all_hold : (s : Slate) (gs : List BallotGroup) (es : List Entry) → first_failing (map (line_on s gs) es) ≡ None → AllByRecursion (λ e. Holds (value_kind e.assertion) (half_kind e.assertion) s gs) es
all_hold s gs [] none = tt
all_hold s gs (e ∷ es) none = by (lt_z (pos 0) (line_on s gs e).margin) refl none (all_hold s gs es)
  where
    by : (b : Bool) → lt_z (pos 0) (line_on s gs e).margin ≡ b → cond b (first_failing (map (line_on s gs) es)) (Some e.number) ≡ None → (first_failing (map (line_on s gs) es) ≡ None → AllByRecursion (λ e. Holds (value_kind e.assertion) (half_kind e.assertion) s gs) es) → AllByRecursion (λ e. Holds (value_kind e.assertion) (half_kind e.assertion) s gs) (e ∷ es)
    by true is rest more = (above_zero _ is, more rest)
    by false is rest more = none_some e.number (sym rest)

all_sound : (o : Opening) (es : List Entry) → AllByRecursion (Fine o) es → AllByRecursion (λ e. SoundAssorter o.slate (value_kind e.assertion) (top_kind e.assertion) (half_kind e.assertion) (rules_kind e.assertion)) es
all_sound o [] fine = tt
all_sound o (e ∷ es) fine = (any_kind_law e.assertion o.slate fine.0, all_sound o es fine.1)

-- no margin is above 0 on no ballots
some_ballots : (s : Slate) (gs : List BallotGroup) (value : List ℕ → ℕ) (top half : ℕ) → ((r : List ℕ) → value r ≤ top) → top ≤ 1000 → Holds value half s gs → 1 ≤ ballots gs
some_ballots s gs value top half within small holds =
    let low = sum_small value s (λ r. omega (arith, within r)) gs in
    omega (arith, ints, low, holds)

pub isSome_some : {X : Type 0} (x : Option X) → is_some x ≡ true → (y : X) × (x ≡ Some y)
isSome_some None is = let z : ◌≡◌ {A = ℕ} 0 1 = cc in absurd (omega arith)
isSome_some (Some y) is = (y, refl)

pub isSome_mapped : {X Y : Type 0} (f : X → Y) (x : Option X) → is_some (option_map f x) ≡ true → is_some x ≡ true
isSome_mapped f None is = is
isSome_mapped f (Some x) is = refl

proper_opening : (o : Opening) → opening_refusal o ≡ None → Proper o.slate
proper_opening o none =
    let parts = and_parts (leb 2 o.slate.candidates) (leb o.slate.candidates 16) (so_none _ _ (none_of _ _ none).0) in
    (leb-true 2 o.slate.candidates parts.0, leb-true o.slate.candidates 16 parts.1)

opened_so : (o : Opening) (ts : List Turn) (s : State) → Run o ts s → opening_refusal o ≡ None
opened_so o [] s run = run.0
opened_so o (t ∷ ts) s run = opened_so o ts run.0 run.1

-- a list that contradicts each order electing another has a member
some_live : (o : Opening) (es : List Entry) → Proper o.slate → AllContradicted o.slate es o.winner → 1 ≤ length es
some_live o [] proper all = let other = another_order o.slate o.winner proper in absurd (all other.0 other.1 (none_ruled other.0))
some_live o (e ∷ es) proper all = omega arith

first_ballots : (o : Opening) (gs : List BallotGroup) (es : List Entry) → 1 ≤ length es → AllByRecursion (λ e. SoundAssorter o.slate (value_kind e.assertion) (top_kind e.assertion) (half_kind e.assertion) (rules_kind e.assertion)) es → AllByRecursion (λ e. Holds (value_kind e.assertion) (half_kind e.assertion) o.slate gs) es → 1 ≤ ballots gs
first_ballots o gs [] some sound hold = absurd (omega arith)
first_ballots o gs (e ∷ es) some sound hold = some_ballots o.slate gs (value_kind e.assertion) (top_kind e.assertion) (half_kind e.assertion) sound.0.within sound.0.small hold.0

module _ (o : Opening) (ts : List Turn) (s t : State) (room : ℕ) (bytes : List ℕ) (run : Run o ts s) (ans : Answers (plans room) s (Ok bytes) t) where
  abbrev h : List Event
  h = events ts

  abbrev st : Standing
  st = standing_by o h

  no_cause : plan_refusal st room ≡ None
  no_cause = (ok_answered _ _ _ (replies o ts s t (plans room) (Ok bytes) run ans)).0

  no_second : first_some (not_tallied st ∷ option_map AssertionDoesNotHold (first_failing (totals st).lines) ∷ page_fits st room ∷ []) ≡ None
  no_second = (none_of (not_checked st) _ no_cause).1

  check_stands : (k : ℕ) × (last_accepted (since_change h) ≡ Some k)
  check_stands = isSome_some _ (so_none _ _ (none_of (not_checked st) _ no_cause).0)

  tally_stands : (gs : List BallotGroup) × (last_tallied (since_change h) ≡ Some gs)
  tally_stands = isSome_some _ (isSome_mapped (totals_on o h) _ (so_none _ NotTallied (none_of (not_tallied st) _ no_second).0))

  none_fails : first_failing (totals st).lines ≡ None
  none_fails = mapped_none AssertionDoesNotHold _ (none_of _ (page_fits st room ∷ []) (none_of (not_tallied st) _ no_second).1).0

  pub shows : PlanShows o h bytes
  shows =
      let k = check_stands.0 in
      let gs = tally_stands.0 in
      let told = (ok_answered _ _ _ (replies o ts s t (plans room) (Ok bytes) run ans)).1 in
      record {
        k = k;
        checked = check_stands.1;
        groups = gs;
        tallied = tally_stands.1;
        hold = all_hold o.slate gs (live_in h) (subst (λ x. first_failing (unwrap_or (option_map (totals_on o h) x) no_totals).lines ≡ None) tally_stands.1 none_fails);
        shown = told ∙ ap (λ x. page o.winner o.factor (totals st).ballots (unwrap_or x 0) (totals st).lines) check_stands.1 ∙ ap (λ x. page o.winner o.factor (unwrap_or (option_map (totals_on o h) x) no_totals).ballots k (unwrap_or (option_map (totals_on o h) x) no_totals).lines) tally_stands.1;
      }

  pub cannot_lose : WinnerCannotLose o ts
  cannot_lose =
      let kept = always_kept o ts s run in
      let gs = shows.groups in
      let stands = shows.tallied in
      let right = kept.right shows.k shows.checked in
      let hold = shows.hold in
      let sound = all_sound o (live_in h) kept.fine in
      let some = some_live o (live_in h) (proper_opening o (opened_so o ts s run)) right in
      record {
        groups = gs;
        last = last_stands h gs stands;
        elects = λ order count.
            ⊎_elim (λ same. same)
            (λ another. absurd (right order (record { order = count.order; another = another }) (all_stand (λ e. value_kind e.assertion) (λ e. top_kind e.assertion) (λ e. half_kind e.assertion) (λ e. rules_kind e.assertion) o.slate gs (live_in h) (kept.fits gs stands) sound hold order count)))
            (cases_eq (elected order) o.winner);
        some_ballots = first_ballots o gs (live_in h) some sound hold;
        some_live = some;
      }
