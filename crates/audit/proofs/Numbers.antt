-- A number is given once, and a plan that is refused for a failing assertion names the lowest.
use Rattle.std.proofs.Common.{◌≡◌, ℕ, ◌+◌, ◌<◌, ◌≤◌, Bool, true, false, cond, leb, List, [], ◌∷◌, map, length, ℤ, pos, ◌<ℤ◌, is_some, Some, None, Ok, Err, Option, unwrap_or, refl, ap, subst, ⊎_elim, arith}
use lib.Signed.{lt_z}
use Rattle.std.proofs.lemmas.Int.{ints}
use Rattle.std.specs.Option.{option_map}
use Rattle.std.specs.List.{ContainsAt}
use Rattle.irv.specs.Ballots.{Slate, BallotGroup}
use Rattle.irv.specs.Assertions.{Holds}
use Rattle.ballot.specs.declared.refusal.Refusal.TheVariants.{NotChecked, NotTallied, AssertionDoesNotHold, BufferTooShort}
use Rattle.assertion.specs.Kinds.{value_kind, half_kind}
use Rattle.assertion.specs.declared.assertion.Assertion.{Assertion}
use Rattle.audit.specs.Entries.{Entry, lines_from, entries, line_on}
use Rattle.audit.specs.States.{Opening, State, unless_so, first_some}
use Rattle.audit.specs.Calls.{Call, enters, withdraws, checks, tallies, plans, ReplyTo, Replies, Answers, accepts, rejects, stops, answered, first_failing, totals, no_totals, page_of, Event, entered, withdrawn, accepted, tallied, event}
use Rattle.audit.specs.Histories.{Turn, Run, then, events, given_in, live_in, since_change, last_tallied, totals_on, standing_by}
use Rattle.audit.specs.Laws.{LowestFailing}
use Rattle.audit.specs.declared.records.AssertionRecord.{AssertionRecord}
use Rattle.audit.proofs.Following.{ok_answered, follows, replies}
use Rattle.audit.proofs.Living.{has_here, has_there, has_cases, none_has}
use Rattle.audit.proofs.Numbering.{line_at}
use Rattle.audit.proofs.Planning.{above_zero, isSome_some, isSome_mapped}

-- every number that was given is at most the number of enterings
abbrev Low : List Event → Type 0
Low h = (m : ℕ) (b : Assertion) → ContainsAt h (entered m b) → m ≤ given_in h

other_event : (h : List Event) (e : Event) (m : ℕ) (b : Assertion) → (e ≡ entered m b → ◌≡◌ {A = ℕ} 0 1) → Low h → ContainsAt (e ∷ h) (entered m b) → m ≤ given_in h
other_event h e m b not_so low has = ⊎_elim (λ is. let z : ◌≡◌ {A = ℕ} 0 1 = not_so is in absurd (omega arith)) (low m b) (has_cases e (entered m b) h has)

still_low : (o : Opening) (h : List Event) → Low h → (call : Call) (r : ReplyTo call) → Replies (standing_by o h) call r → Low (then (event call r) h)
still_low o h low (enters a) (Ok n) reply =
    let number : n ≡ given_in h + 1 = (ok_answered _ _ _ reply).1 in
    λ m b has. ⊎_elim (λ is. let same : n ≡ m = cc in omega arith) (λ before. omega (arith, low m b before)) (has_cases (entered n a) (entered m b) h has)
still_low o h low (enters a) (Err e) reply = low
still_low o h low (withdraws n) (Ok u) reply = λ m b. other_event h (withdrawn n) m b (λ is. cc) low
still_low o h low (withdraws n) (Err e) reply = low
still_low o h low (checks limit) (Ok (accepts k)) reply = λ m b. other_event h (accepted k) m b (λ is. cc) low
still_low o h low (checks limit) (Ok (rejects p k)) reply = low
still_low o h low (checks limit) (Ok stops) reply = low
still_low o h low (checks limit) (Err e) reply = low
still_low o h low (tallies s gs) (Ok u) reply = λ m b. other_event h (tallied gs) m b (λ is. cc) low
still_low o h low (tallies s gs) (Err e) reply = low
still_low o h low (plans room) r reply = low

always_low : (o : Opening) (ts : List Turn) (s : State) → Run o ts s → Low (events ts)
always_low o [] s run = λ m b has. absurd (none_has (entered m b) has)
always_low o (t ∷ ts) s run = still_low o (events ts) (always_low o ts run.0 run.1) t.call t.reply (replies o ts run.0 s t.call t.reply run.1 run.2)

pub number_new : (o : Opening) (ts : List Turn) (s t : State) (a : Assertion) (n : ℕ) → Run o ts s → Answers (enters a) s (Ok n) t → (n ≡ given_in (events ts) + 1) × ((b : Assertion) → ContainsAt (events ts) (entered n b) → ⊥)
number_new o ts s t a n run ans =
    let number : n ≡ given_in (events ts) + 1 = (ok_answered _ _ _ (replies o ts s t (enters a) (Ok n) run ans)).1 in
    (number, λ b has. omega (arith, always_low o ts s run n b has))

-- numbers above k that rise
abbrev Rising : ℕ → List Entry → Type 0
Rising k [] = Unit {0}
Rising k (e ∷ es) = (k < e.number) × Rising e.number es

rising_lines : (j k : ℕ) (rs : List AssertionRecord) → j < k → Rising j (entries (lines_from k rs))
rising_lines j k [] below = tt
rising_lines j k (r ∷ rs) below =
    let here : Rising k (entries (lines_from (k + 1) rs)) = rising_lines k (k + 1) rs (omega arith) in
    let past : Rising j (entries (lines_from (k + 1) rs)) = rising_lines j (k + 1) rs (omega arith) in
    elim r.live as (λ b. Rising j (entries (cond b (line_at k r ∷ lines_from (k + 1) rs) (lines_from (k + 1) rs)))) [ true ↦ (below, here) | false ↦ past ]

rises_above : (k : ℕ) (es : List Entry) (f : Entry) → Rising k es → ContainsAt es f → k < f.number
rises_above k [] f rising has = absurd (none_has f has)
rises_above k (e ∷ es) f rising has =
    ⊎_elim (λ same. subst (λ x. k < x.number) same rising.0) (λ later. let above = rises_above e.number es f rising.1 later in omega (arith, rising.0)) (has_cases e f es has)

abbrev HoldsOn : Slate → List BallotGroup → Entry → Type 0
HoldsOn s gs e = Holds (value_kind e.assertion) (half_kind e.assertion) s gs

not_above : (m : ℤ) → lt_z (pos 0) m ≡ false → pos 0 <ℤ m → ⊥
not_above m out above = grind (arith, ints)

pub lowest : (s : Slate) (gs : List BallotGroup) (n k : ℕ) (es : List Entry) → Rising k es → first_failing (map (line_on s gs) es) ≡ Some n → ((e : Entry) × ContainsAt es e × (e.number ≡ n) × (HoldsOn s gs e → ⊥)) × ((f : Entry) → ContainsAt es f → f.number < n → HoldsOn s gs f)
lowest s gs n k [] rising is = let z : ◌≡◌ {A = ℕ} 0 1 = cc in absurd (omega arith)
lowest s gs n k (e ∷ es) rising is = by (lt_z (pos 0) (line_on s gs e).margin) refl is (lowest s gs n e.number es rising.1)
  where
    by : (b : Bool) → lt_z (pos 0) (line_on s gs e).margin ≡ b → cond b (first_failing (map (line_on s gs) es)) (Some e.number) ≡ Some n → (first_failing (map (line_on s gs) es) ≡ Some n → ((x : Entry) × ContainsAt es x × (x.number ≡ n) × (HoldsOn s gs x → ⊥)) × ((f : Entry) → ContainsAt es f → f.number < n → HoldsOn s gs f)) → ((x : Entry) × ContainsAt (e ∷ es) x × (x.number ≡ n) × (HoldsOn s gs x → ⊥)) × ((f : Entry) → ContainsAt (e ∷ es) f → f.number < n → HoldsOn s gs f)
    by true holds rest more =
        let found = more rest in
        ((found.0.0, has_there e found.0.0 es found.0.1, found.0.2, found.0.3), λ f has below. ⊎_elim (λ same. subst (HoldsOn s gs) same (above_zero _ holds)) (λ later. found.1 f later below) (has_cases e f es has))
    by false fails rest more =
        let number : e.number ≡ n = cc in
        ((e, has_here e es, number, not_above _ fails), λ f has below. absurd (⊎_elim (λ same. omega (arith, ap (λ x. x.number) same)) (λ later. omega (arith, rises_above e.number es f rising.1 later)) (has_cases e f es has)))

-- a refusal for a failing assertion says which is the first
fails_told : (b c d : Bool) (ff : Option ℕ) (n len : ℕ) (bytes : List ℕ) → Err (AssertionDoesNotHold n) ≡ answered (first_some (unless_so b NotChecked ∷ unless_so c NotTallied ∷ option_map AssertionDoesNotHold ff ∷ unless_so d (BufferTooShort len) ∷ [])) bytes → (c ≡ true) × (ff ≡ Some n)
fails_told true true d (Some m) n len bytes is = (refl, cc)
fails_told true true true None n len bytes is = let z : ◌≡◌ {A = ℕ} 0 1 = cc in absurd (omega arith)
fails_told true true false None n len bytes is = let z : ◌≡◌ {A = ℕ} 0 1 = cc in absurd (omega arith)
fails_told true false d ff n len bytes is = let z : ◌≡◌ {A = ℕ} 0 1 = cc in absurd (omega arith)
fails_told false c d ff n len bytes is = let z : ◌≡◌ {A = ℕ} 0 1 = cc in absurd (omega arith)

pub names_lowest : (o : Opening) (ts : List Turn) (s t : State) (room n : ℕ) → Run o ts s → Answers (plans room) s (Err (AssertionDoesNotHold n)) t → LowestFailing o (events ts) n
names_lowest o ts s t room n run ans =
    let h = events ts in
    let st = standing_by o h in
    let rising : Rising 0 (live_in h) = subst (Rising 0) (ap (λ x. x.live) (follows o ts s run)) (rising_lines 0 1 s.records (omega arith)) in
    let told = fails_told (is_some st.checked) (is_some st.tallied) (leb (length (page_of st)) room) (first_failing (totals st).lines) n (length (page_of st)) (page_of st) (replies o ts s t (plans room) (Err (AssertionDoesNotHold n)) run ans) in
    let last = isSome_some _ (isSome_mapped (totals_on o h) (last_tallied (since_change h)) told.0) in
    let fails : first_failing (map (line_on o.slate last.0) (live_in h)) ≡ Some n = subst (λ x. first_failing (unwrap_or (option_map (totals_on o h) x) no_totals).lines ≡ Some n) last.1 told.1 in
    let found = lowest o.slate last.0 n 0 (live_in h) rising fails in
    record { groups = last.0; tallied = last.1; entry = found.0.0; is_live = found.0.1; number = found.0.2; fails = found.0.3; lower_hold = found.1 }
