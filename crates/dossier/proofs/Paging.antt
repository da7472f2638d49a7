-- The lines of a page, record by record.
use Rattle.std.proofs.Common.{◌≡◌, ℕ, suc, ◌+◌, ◌*◌, ◌^◌, ◌<◌, ◌≤◌, max, true, false, cond, leb, List, [], ◌∷◌, ◌++◌, map, length, get_or, take, nat_abs, codes, sym, refl, ap, ◌∙◌, div-le_self, arith}
use Rattle.std.proofs.lemmas.List.{append_assoc}
use Rattle.std.proofs.lemmas.Bool.{and_parts, leb-true}
use Rattle.std.specs.List.{fold, flat_map, AllByRecursion}
use Rattle.irv.specs.Ballots.{Slate}
use Rattle.audit.specs.Entries.{lines_from}
use Rattle.assertion.specs.Kinds.{top_kind}
use Rattle.assertion.specs.Sums.{most_value}
use Rattle.assertion.specs.declared.assertion.Assertion.{Assertion}
use Rattle.audit.specs.Pages.{share, sample, sample_of, number_line, assertion_line, largest}
use Rattle.audit.specs.declared.records.AssertionRecord.{AssertionRecord}
use Rattle.audit.proofs.Numbering.{line_at, lines_more}
use Rattle.page.proofs.Lengths.{ShortLine}
use Rattle.dossier.specs.Dossiers.{pulled_for}
use Rattle.dossier.specs.Fine.{fits, fine_record, all_fine}
use Rattle.dossier.proofs.Keeping.{fits_none}

pub one_line : (k : ℕ) (r : AssertionRecord) → r.live ≡ true → lines_from k (r ∷ []) ≡ line_at k r ∷ []
one_line k r live = ap (λ b. cond b (line_at k r ∷ []) []) live

-- the lines of one record more
pub lines_next : (rs qs : List AssertionRecord) (i : ℕ) (r : AssertionRecord) → qs ≡ rs → i < length qs → r ≡ get_or qs i r → lines_from 1 (take i rs) ++ lines_from (i + 1) (r ∷ []) ≡ lines_from 1 (take (i + 1) rs)
lines_next rs qs i r same within is =
    ap (λ n. lines_from 1 (take i rs) ++ lines_from n (r ∷ [])) (omega arith) ∙ ap (λ q. lines_from 1 (take i rs) ++ lines_from (1 + i) (q ∷ [])) (is ∙ ap (λ ps. get_or ps i r) same) ∙ sym (lines_more rs i r (omega (arith, ap length same)))

pub joined_append : {X A : Type 0} (f : X → List A) (xs ys : List X) → flat_map f xs ++ flat_map f ys ≡ flat_map f (xs ++ ys)
joined_append f [] ys = refl
joined_append f (x ∷ xs) ys = append_assoc (f x) (flat_map f xs) (flat_map f ys) ∙ ap (λ zs. f x ++ zs) (joined_append f xs ys)

-- the largest of the lines' samples, record by record
pub largest_from : (factor ballots most k : ℕ) (rs : List AssertionRecord) → fold (λ m r. max m (pulled_for factor ballots r)) most rs ≡ max most (largest (map (sample_of factor ballots) (lines_from k rs)))
largest_from factor ballots most k [] = omega arith
largest_from factor ballots most k (r ∷ rs) =
    let most' = max most (pulled_for factor ballots r) in
    let rest : fold (λ m r. max m (pulled_for factor ballots r)) most' rs ≡ max most' (largest (map (sample_of factor ballots) (lines_from (k + 1) rs))) = largest_from factor ballots most' (k + 1) rs in
    rest ∙ (elim r.live as (λ b. max (max most (cond b (sample factor (top_kind r.assertion) (nat_abs r.margin) ballots) 0)) (largest (map (sample_of factor ballots) (lines_from (k + 1) rs))) ≡ max most (largest (map (sample_of factor ballots) (cond b (line_at k r ∷ lines_from (k + 1) rs) (lines_from (k + 1) rs))))) [ true ↦ omega arith | false ↦ omega arith ])

-- the four lines of an assertion, by their figures
abbrev pub four_lines : Assertion → ℕ → ℕ → ℕ → ℕ → List ℕ
four_lines a number margin part pulled =
    assertion_line (record { number = number; assertion = a }) ++ (number_line (codes "margin=") margin ++ (number_line (codes "share=") part ++ number_line (codes "sample=") pulled))

pub share_small : (half margin ballots : ℕ) → margin ≤ most_value → share half margin ballots < 2 ^ 64
unfolding share
share_small half margin ballots small = omega (arith, div-le_self (10000 * margin) (half * ballots))

-- the whole page, by its parts
abbrev pub whole_page : ℕ → ℕ → ℕ → List ℕ → ℕ → List ℕ
whole_page winner ballots endings lines total =
    number_line (codes "winner=") winner ++ (number_line (codes "ballots=") ballots ++ (number_line (codes "endings=") endings ++ (lines ++ number_line (codes "total=") total)))

-- the lines of fine records are few and short
pub few_lines : (k : ℕ) (rs : List AssertionRecord) → length (lines_from k rs) ≤ length rs
few_lines k [] = omega arith
few_lines k (r ∷ rs) =
    let rest : length (lines_from (k + 1) rs) ≤ length rs = few_lines (k + 1) rs in
    elim r.live as (λ b. length (cond b (line_at k r ∷ lines_from (k + 1) rs) (lines_from (k + 1) rs)) ≤ suc (length rs)) [ true ↦ omega arith | false ↦ omega arith ]

pub short_lines : (s : Slate) (k : ℕ) (rs : List AssertionRecord) → all_fine s rs ≡ true → k + length rs < 2 ^ 64 → AllByRecursion (ShortLine s) (lines_from k rs)
short_lines s k [] fine low = tt
short_lines s k (r ∷ rs) fine low =
    let parts = and_parts (fine_record s r) (all_fine s rs) fine in
    let here = and_parts (fits s r.assertion) (leb (nat_abs r.margin) most_value) parts.0 in
    let rest : AllByRecursion (ShortLine s) (lines_from (k + 1) rs) = short_lines s (k + 1) rs parts.1 (omega arith) in
    elim r.live as (λ b. AllByRecursion (ShortLine s) (cond b (line_at k r ∷ lines_from (k + 1) rs) (lines_from (k + 1) rs))) [ true ↦ ((omega arith, (leb-true (nat_abs r.margin) most_value here.1, fits_none s r.assertion here.0)), rest) | false ↦ rest ]
