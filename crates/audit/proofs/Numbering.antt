-- The live records under their numbers: after one more record, after one is ended, after a tally, and whose number is live.
use Rattle.std.proofs.Common.{◌≡◌, ℕ, zero, suc, ◌+◌, ◌<◌, ◌≤◌, true, false, cond, List, [], ◌∷◌, ◌++◌, map, length, get_or, take, sym, refl, ap, ◌∙◌, arith}
use Rattle.std.proofs.lemmas.List.{take_more, length-take-le}
use Rattle.std.proofs.lemmas.Bool.{eq-eqb, ne_eqb}
use Rattle.irv.specs.Ballots.{Slate, BallotGroup}
use Rattle.audit.specs.Entries.{Entry, Line, lines_from, entries, is_among, without, line_on}
use Rattle.assertion.specs.Kinds.{top_kind}
use Rattle.audit.specs.Calls.{ended, changed_at, retallied, margin_and_top}
use Rattle.audit.specs.declared.records.AssertionRecord.{AssertionRecord}

abbrev pub line_at : ℕ → AssertionRecord → Line
line_at k r = record { entry = record { number = k; assertion = r.assertion }; margin = r.margin }

pub lines_append : (k : ℕ) (xs ys : List AssertionRecord) → lines_from k (xs ++ ys) ≡ lines_from k xs ++ lines_from (k + length xs) ys
lines_append k [] ys = ap (λ j. lines_from j ys) (omega arith)
lines_append k (x ∷ xs) ys =
    let rest : lines_from (k + 1) (xs ++ ys) ≡ lines_from (k + 1) xs ++ lines_from (k + suc (length xs)) ys = lines_append (k + 1) xs ys ∙ ap (λ j. lines_from (k + 1) xs ++ lines_from j ys) (omega arith) in
    elim x.live as (λ b. cond b (line_at k x ∷ lines_from (k + 1) (xs ++ ys)) (lines_from (k + 1) (xs ++ ys)) ≡ cond b (line_at k x ∷ lines_from (k + 1) xs) (lines_from (k + 1) xs) ++ lines_from (k + suc (length xs)) ys) [ true ↦ ap (λ ls. line_at k x ∷ ls) rest | false ↦ rest ]

-- no number below the first is among them
pub without_below : (n k : ℕ) (rs : List AssertionRecord) → n < k → without n (entries (lines_from k rs)) ≡ entries (lines_from k rs)
without_below n k [] below = refl
without_below n k (r ∷ rs) below =
    let rest : without n (entries (lines_from (k + 1) rs)) ≡ entries (lines_from (k + 1) rs) = without_below n (k + 1) rs (omega arith) in
    elim r.live as (λ b. without n (entries (cond b (line_at k r ∷ lines_from (k + 1) rs) (lines_from (k + 1) rs))) ≡ entries (cond b (line_at k r ∷ lines_from (k + 1) rs) (lines_from (k + 1) rs))) [ true ↦ rw (ne_eqb k n (omega arith)) (ap (λ es. (line_at k r).entry ∷ es) rest) | false ↦ rest ]

pub without_ended : (k i : ℕ) (rs : List AssertionRecord) → entries (lines_from k (changed_at ended i rs)) ≡ without (k + i) (entries (lines_from k rs))
without_ended k i [] = refl
without_ended k zero (r ∷ rs) =
    let rest : entries (lines_from (k + 1) rs) ≡ without (k + 0) (entries (lines_from (k + 1) rs)) = sym (without_below (k + 0) (k + 1) rs (omega arith)) in
    elim r.live as (λ b. entries (lines_from (k + 1) rs) ≡ without (k + 0) (entries (cond b (line_at k r ∷ lines_from (k + 1) rs) (lines_from (k + 1) rs)))) [ true ↦ rw (eq-eqb k (k + 0) (omega arith)) rest | false ↦ rest ]
without_ended k (suc i) (r ∷ rs) =
    let rest : entries (lines_from (k + 1) (changed_at ended i rs)) ≡ without (k + suc i) (entries (lines_from (k + 1) rs)) = without_ended (k + 1) i rs ∙ ap (λ n. without n (entries (lines_from (k + 1) rs))) (omega arith) in
    elim r.live as (λ b. entries (cond b (line_at k r ∷ lines_from (k + 1) (changed_at ended i rs)) (lines_from (k + 1) (changed_at ended i rs))) ≡ without (k + suc i) (entries (cond b (line_at k r ∷ lines_from (k + 1) rs) (lines_from (k + 1) rs)))) [ true ↦ rw (ne_eqb k (k + suc i) (omega arith)) (ap (λ es. (line_at k r).entry ∷ es) rest) | false ↦ rest ]

pub length_changed : (f : AssertionRecord → AssertionRecord) (i : ℕ) (rs : List AssertionRecord) → length (changed_at f i rs) ≡ length rs
length_changed f i [] = refl
length_changed f zero (r ∷ rs) = refl
length_changed f (suc i) (r ∷ rs) = ap suc (length_changed f i rs)

pub lines_retallied : (s : Slate) (gs : List BallotGroup) (k : ℕ) (rs : List AssertionRecord) → lines_from k (map (retallied s gs) rs) ≡ map (line_on s gs) (entries (lines_from k rs))
lines_retallied s gs k [] = refl
lines_retallied s gs k (r ∷ rs) =
    let rest : lines_from (k + 1) (map (retallied s gs) rs) ≡ map (line_on s gs) (entries (lines_from (k + 1) rs)) = lines_retallied s gs (k + 1) rs in
    elim r.live as (λ b. r.live ≡ b → cond b (line_at k (retallied s gs r) ∷ lines_from (k + 1) (map (retallied s gs) rs)) (lines_from (k + 1) (map (retallied s gs) rs)) ≡ map (line_on s gs) (entries (cond b (line_at k r ∷ lines_from (k + 1) rs) (lines_from (k + 1) rs)))) [ true ↦ λ is. rw is (ap (λ ls. line_on s gs (line_at k r).entry ∷ ls) rest) | false ↦ λ is. rest ] refl

pub entries_on : (s : Slate) (gs : List BallotGroup) (es : List Entry) → entries (map (line_on s gs) es) ≡ es
entries_on s gs [] = refl
entries_on s gs (e ∷ es) = ap (λ fs. e ∷ fs) (entries_on s gs es)

pub among_below : (n k : ℕ) (rs : List AssertionRecord) → n < k → is_among n (entries (lines_from k rs)) ≡ false
among_below n k [] below = refl
among_below n k (r ∷ rs) below =
    let rest : is_among n (entries (lines_from (k + 1) rs)) ≡ false = among_below n (k + 1) rs (omega arith) in
    elim r.live as (λ b. is_among n (entries (cond b (line_at k r ∷ lines_from (k + 1) rs) (lines_from (k + 1) rs))) ≡ false) [ true ↦ rw (ne_eqb k n (omega arith)) rest | false ↦ rest ]

-- a number is live where the record at its place is
pub among_at : (k i : ℕ) (rs : List AssertionRecord) (d : AssertionRecord) → i < length rs → is_among (k + i) (entries (lines_from k rs)) ≡ (get_or rs i d).live
among_at k i [] d within = absurd (omega arith)
among_at k zero (r ∷ rs) d within =
    let rest : is_among (k + 0) (entries (lines_from (k + 1) rs)) ≡ false = among_below (k + 0) (k + 1) rs (omega arith) in
    elim r.live as (λ b. is_among (k + 0) (entries (cond b (line_at k r ∷ lines_from (k + 1) rs) (lines_from (k + 1) rs))) ≡ b) [ true ↦ rw (eq-eqb k (k + 0) (omega arith)) refl | false ↦ rest ]
among_at k (suc i) (r ∷ rs) d within =
    let rest : is_among (k + suc i) (entries (lines_from (k + 1) rs)) ≡ (get_or rs i d).live = ap (λ n. is_among n (entries (lines_from (k + 1) rs))) (omega arith) ∙ among_at (k + 1) i rs d (omega arith) in
    elim r.live as (λ b. is_among (k + suc i) (entries (cond b (line_at k r ∷ lines_from (k + 1) rs) (lines_from (k + 1) rs))) ≡ (get_or rs i d).live) [ true ↦ rw (ne_eqb k (k + suc i) (omega arith)) rest | false ↦ rest ]

pub among_past : (n k : ℕ) (rs : List AssertionRecord) → k + length rs ≤ n → is_among n (entries (lines_from k rs)) ≡ false
among_past n k [] past = refl
among_past n k (r ∷ rs) past =
    let rest : is_among n (entries (lines_from (k + 1) rs)) ≡ false = among_past n (k + 1) rs (omega arith) in
    elim r.live as (λ b. is_among n (entries (cond b (line_at k r ∷ lines_from (k + 1) rs) (lines_from (k + 1) rs))) ≡ false) [ true ↦ rw (ne_eqb k n (omega arith)) rest | false ↦ rest ]

-- the line of a live number has the margin and the assertion of the record at its place
pub told_at : (k i : ℕ) (rs : List AssertionRecord) (d : AssertionRecord) → i < length rs → (get_or rs i d).live ≡ true → margin_and_top (k + i) (lines_from k rs) ≡ ((get_or rs i d).margin, top_kind (get_or rs i d).assertion)
told_at k i [] d within live = absurd (omega arith)
told_at k zero (r ∷ rs) d within live = rw (live, eq-eqb k (k + 0) (omega arith)) refl
told_at k (suc i) (r ∷ rs) d within live =
    let rest : margin_and_top (k + suc i) (lines_from (k + 1) rs) ≡ ((get_or rs i d).margin, top_kind (get_or rs i d).assertion) = ap (λ n. margin_and_top n (lines_from (k + 1) rs)) (omega arith) ∙ told_at (k + 1) i rs d (omega arith) live in
    elim r.live as (λ b. margin_and_top (k + suc i) (cond b (line_at k r ∷ lines_from (k + 1) rs) (lines_from (k + 1) rs)) ≡ ((get_or rs i d).margin, top_kind (get_or rs i d).assertion)) [ true ↦ rw (ne_eqb k (k + suc i) (omega arith)) rest | false ↦ rest ]

-- the lines of one record more
pub lines_more : (rs : List AssertionRecord) (i : ℕ) (d : AssertionRecord) → i < length rs → lines_from 1 (take (i + 1) rs) ≡ lines_from 1 (take i rs) ++ lines_from (1 + i) (get_or rs i d ∷ [])
lines_more rs i d within =
    ap (lines_from 1) (take_more rs i d within) ∙ lines_append 1 (take i rs) (get_or rs i d ∷ []) ∙ ap (λ n. lines_from 1 (take i rs) ++ lines_from (1 + n) (get_or rs i d ∷ [])) (length-take-le i rs (omega arith))
