-- What a dossier holds follows its history: one lemma for each event.
use Rattle.std.proofs.Common.{◌≡◌, ℕ, ◌+◌, ◌-◌, ◌≤◌, Bool, true, false, List, [], ◌∷◌, ◌++◌, map, length, Some, None, Ok, Err, Option, sym, refl, ap, ◌∙◌, subst, ⊎_elim, arith}
use Rattle.std.proofs.lemmas.List.{length_push, length-map, map-append}
use Rattle.std.proofs.lemmas.Bool.{false≢true, cases_lt}
use Rattle.irv.specs.Ballots.{BallotGroup, ballots}
use Rattle.ballot.specs.declared.refusal.Refusal.{Refusal}
use Rattle.assertion.specs.declared.assertion.Assertion.{Assertion}
use Rattle.audit.specs.Entries.{Entry, lines_from, entries, is_among, without, line_on}
use Rattle.audit.specs.States.{Opening, State, Standing, Totals, standing, under, has_check, has_tally, with_check, with_tally, unless_so}
use Rattle.audit.specs.Calls.{Call, enters, withdraws, checks, tallies, plans, ReplyTo, Replies, Answers, accepts, rejects, stops, answered, Event, entered, withdrawn, accepted, tallied, event, after, fresh, ended, changed_at, retallied}
use Rattle.audit.specs.Histories.{Turn, Run, then, events, live_in, given_in, standing_by}
use Rattle.audit.proofs.Numbering.{lines_append, without_ended, length_changed, lines_retallied, entries_on, among_below}
use Rattle.audit.specs.declared.records.AssertionRecord.{AssertionRecord}
use Rattle.audit.specs.declared.stage.Stage.{Stage}
use Rattle.audit.specs.declared.stage.Stage.TheVariants.{Plain, Checked, Tallied, Ready}

abbrev built : Opening → ℕ → List Entry → Option ℕ → Option Totals → Standing
built o n es k t = record { opening = o; given = n; live = es; checked = k; tallied = t }

same : (o p : Opening) (m n : ℕ) (es fs : List Entry) (j k : Option ℕ) (t u : Option Totals) → o ≡ p → m ≡ n → es ≡ fs → j ≡ k → t ≡ u → built o m es j t ≡ built p n fs k u
same o p m n es fs j k t u a b c d e = ap (λ x. built x m es j t) a ∙ ap (λ x. built p x es j t) b ∙ ap (λ x. built p n x j t) c ∙ ap (λ x. built p n fs x t) d ∙ ap (λ x. built p n fs k x) e

-- marks: a check's mark is there after it, and leaves the tally's as it was; and the other way round
mark_check : (g : Stage) (k : ℕ) → under (has_check (with_check g)) k ≡ Some k
mark_check Plain k = refl
mark_check Checked k = refl
mark_check Tallied k = refl
mark_check Ready k = refl

keeps_tally : (g : Stage) (t : Totals) → under (has_tally (with_check g)) t ≡ under (has_tally g) t
keeps_tally Plain t = refl
keeps_tally Checked t = refl
keeps_tally Tallied t = refl
keeps_tally Ready t = refl

mark_tally : (g : Stage) (t : Totals) → under (has_tally (with_tally g)) t ≡ Some t
mark_tally Plain t = refl
mark_tally Checked t = refl
mark_tally Tallied t = refl
mark_tally Ready t = refl

keeps_check : (g : Stage) (k : ℕ) → under (has_check (with_tally g)) k ≡ under (has_check g) k
keeps_check Plain k = refl
keeps_check Checked k = refl
keeps_check Tallied k = refl
keeps_check Ready k = refl

module _ (o : Opening) (h : List Event) (s : State) (now : standing s ≡ standing_by o h) where
  opening_now : s.opening ≡ o
  opening_now = ap (λ st. st.opening) now

  given_now : length s.records ≡ given_in h
  given_now = ap (λ st. st.given) now

  live_now : entries (lines_from 1 s.records) ≡ live_in h
  live_now = ap (λ st. st.live) now

  pub after_entered : (n : ℕ) (a : Assertion) → n ≡ length s.records + 1 → standing (after (Some (entered n a)) s) ≡ standing_by o (entered n a ∷ h)
  after_entered n a number =
      same _ _ _ _ _ _ _ _ _ _ opening_now (length_push s.records (fresh a) ∙ ap (λ x. x + 1) given_now) live refl refl
    where
      live : entries (lines_from 1 (s.records ++ (fresh a ∷ []))) ≡ live_in h ++ (record { number = n; assertion = a } ∷ [])
      live =
          ap entries (lines_append 1 s.records (fresh a ∷ [])) ∙ map-append (λ l. l.entry) (lines_from 1 s.records) (lines_from (1 + length s.records) (fresh a ∷ []))
          ∙ ap (λ es. es ++ (record { number = 1 + length s.records; assertion = a } ∷ [])) live_now
          ∙ ap (λ j. live_in h ++ (record { number = j; assertion = a } ∷ [])) (omega arith)

  pub after_withdrawn : (n : ℕ) → 1 ≤ n → standing (after (Some (withdrawn n)) s) ≡ standing_by o (withdrawn n ∷ h)
  after_withdrawn n some =
      same _ _ _ _ _ _ _ _ _ _ opening_now (length_changed ended (n - 1) s.records ∙ given_now) live refl refl
    where
      live : entries (lines_from 1 (changed_at ended (n - 1) s.records)) ≡ without n (live_in h)
      live =
          without_ended 1 (n - 1) s.records ∙ ap (λ j. without j (entries (lines_from 1 s.records))) (omega arith)
          ∙ ap (without n) live_now

  pub after_accepted : (k : ℕ) → standing (after (Some (accepted k)) s) ≡ standing_by o (accepted k ∷ h)
  after_accepted k =
      same _ _ _ _ _ _ _ _ _ _ opening_now given_now live_now (mark_check s.stage k) (keeps_tally s.stage _ ∙ ap (λ st. st.tallied) now)

  pub after_tallied : (gs : List BallotGroup) → standing (after (Some (tallied gs)) s) ≡ standing_by o (tallied gs ∷ h)
  after_tallied gs =
      same _ _ _ _ _ _ _ _ _ _ opening_now (many ∙ given_now) live (keeps_check s.stage s.endings ∙ ap (λ st. st.checked) now) (mark_tally s.stage _ ∙ ap (λ ls. Some (record { ballots = ballots gs; lines = ls })) lines)
    where
      many : length (map (retallied s.opening.slate gs) s.records) ≡ length s.records
      many = length-map s.records (retallied s.opening.slate gs)

      lines : lines_from 1 (map (retallied s.opening.slate gs) s.records) ≡ map (line_on o.slate gs) (live_in h)
      lines =
          lines_retallied s.opening.slate gs 1 s.records ∙ ap (λ p. map (line_on p.slate gs) (entries (lines_from 1 s.records))) opening_now
          ∙ ap (map (line_on o.slate gs)) live_now

      live : entries (lines_from 1 (map (retallied s.opening.slate gs) s.records)) ≡ live_in h
      live = ap entries lines ∙ entries_on o.slate gs (live_in h)

-- an answer says that no cause fits, and what was answered
pub ok_answered : {X : Type 0} (c : Option Refusal) (x y : X) → Ok y ≡ answered c x → (c ≡ None) × (y ≡ x)
ok_answered None x y is = (refl, cc)
ok_answered (Some e) x y is = let z : ◌≡◌ {A = ℕ} 0 1 = cc in absurd (omega arith)

pub so_none : (b : Bool) (e : Refusal) → unless_so b e ≡ None → b ≡ true
so_none true e is = refl
so_none false e is = let z : ◌≡◌ {A = ℕ} 0 1 = cc in absurd (omega arith)

-- only numbers from 1 on are live
some_number : (n : ℕ) (rs : List AssertionRecord) → is_among n (entries (lines_from 1 rs)) ≡ true → 1 ≤ n
some_number n rs live = ⊎_elim (λ none. absurd (false≢true (sym (among_below n 1 rs none) ∙ live))) (λ some. some) (cases_lt n 1)

pub follow : (o : Opening) (h : List Event) (s : State) → standing s ≡ standing_by o h → (call : Call) (r : ReplyTo call) (t : State) → Answers call s r t → standing t ≡ standing_by o (then (event call r) h)
follow o h s now (enters a) (Ok n) t ans = ap standing ans.after_is ∙ after_entered o h s now n a (ok_answered _ _ _ ans.reply).1
follow o h s now (enters a) (Err e) t ans = ap standing ans.after_is ∙ now
follow o h s now (withdraws n) (Ok u) t ans =
    ap standing ans.after_is ∙ after_withdrawn o h s now n (some_number n s.records (so_none _ _ (ok_answered _ _ _ ans.reply).0))
follow o h s now (withdraws n) (Err e) t ans = ap standing ans.after_is ∙ now
follow o h s now (checks limit) (Ok (accepts k)) t ans = ap standing ans.after_is ∙ after_accepted o h s now k
follow o h s now (checks limit) (Ok (rejects p k)) t ans = ap standing ans.after_is ∙ now
follow o h s now (checks limit) (Ok stops) t ans = ap standing ans.after_is ∙ now
follow o h s now (checks limit) (Err e) t ans = ap standing ans.after_is ∙ now
follow o h s now (tallies w gs) (Ok u) t ans = ap standing ans.after_is ∙ after_tallied o h s now gs
follow o h s now (tallies w gs) (Err e) t ans = ap standing ans.after_is ∙ now
follow o h s now (plans room) r t ans = ap standing ans.after_is ∙ now

pub follows : (o : Opening) (ts : List Turn) (s : State) → Run o ts s → standing s ≡ standing_by o (events ts)
follows o [] s run = ap standing run.1
follows o (t ∷ ts) s run = follow o (events ts) run.0 (follows o ts run.0 run.1) t.call t.reply s run.2

pub replies : (o : Opening) (ts : List Turn) (s t : State) (call : Call) (r : ReplyTo call) → Run o ts s → Answers call s r t → Replies (standing_by o (events ts)) call r
replies o ts s t call r run ans = subst (λ st. Replies st call r) (follows o ts s run) ans.reply
