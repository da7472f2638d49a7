-- The records of a dossier stay fine: with one more, with one ended, with one tallied.
use Rattle.std.proofs.Common.{◌≡◌, ℕ, zero, suc, ◌<◌, ◌≤◌, true, not, List, [], ◌∷◌, ◌++◌, length, get_or, set, nat_abs, is_some, Some, None, Option, refl, ap, ◌∙◌, arith}
use Rattle.std.proofs.lemmas.Bool.{and_parts, and_from, leb-true}
use Rattle.irv.specs.Ballots.{Slate}
use Rattle.irv.specs.Assertions.{judged}
use Rattle.assertion.specs.Kinds.{written_kind}
use Rattle.assertion.specs.Sums.{most_value}
use Rattle.assertion.specs.declared.assertion.Assertion.{Assertion}
use Rattle.audit.specs.Calls.{changed_at}
use Rattle.audit.specs.declared.records.AssertionRecord.{AssertionRecord}
use Rattle.dossier.specs.Fine.{fits, fine_record, all_fine}

pub fits_so : (s : Slate) (a : Assertion) → judged s (written_kind a) ≡ None → fits s a ≡ true
unfolding fits
fits_so s a none = ap (λ c. not (is_some c)) none

pub fits_none : (s : Slate) (a : Assertion) → fits s a ≡ true → judged s (written_kind a) ≡ None
unfolding fits
fits_none s a so = by (judged s (written_kind a)) so
  where
    by : {X : Type 0} (c : Option X) → not (is_some c) ≡ true → c ≡ None
    by None so = refl
    by (Some x) so = let z : ◌≡◌ {A = ℕ} 0 1 = cc in absurd (omega arith)

pub fine_push : (s : Slate) (rs : List AssertionRecord) (r : AssertionRecord) → all_fine s rs ≡ true → fine_record s r ≡ true → all_fine s (rs ++ (r ∷ [])) ≡ true
fine_push s [] r all one = and_from (fine_record s r) true one refl
fine_push s (q ∷ rs) r all one = let parts = and_parts (fine_record s q) (all_fine s rs) all in and_from (fine_record s q) _ parts.0 (fine_push s rs r parts.1 one)

pub fine_at : (s : Slate) (rs : List AssertionRecord) (i : ℕ) (d : AssertionRecord) → i < length rs → all_fine s rs ≡ true → fine_record s (get_or rs i d) ≡ true
fine_at s [] i d within all = absurd (omega arith)
fine_at s (r ∷ rs) zero d within all = (and_parts (fine_record s r) (all_fine s rs) all).0
fine_at s (r ∷ rs) (suc i) d within all = fine_at s rs i d (omega arith) (and_parts (fine_record s r) (all_fine s rs) all).1

pub fine_set : (s : Slate) (rs : List AssertionRecord) (i : ℕ) (r : AssertionRecord) → all_fine s rs ≡ true → fine_record s r ≡ true → all_fine s (set rs i r) ≡ true
fine_set s [] i r all one = refl
fine_set s (q ∷ rs) zero r all one = and_from (fine_record s r) (all_fine s rs) one (and_parts (fine_record s q) (all_fine s rs) all).1
fine_set s (q ∷ rs) (suc i) r all one =
    let parts = and_parts (fine_record s q) (all_fine s rs) all in
    and_from (fine_record s q) (all_fine s (set rs i r)) parts.0 (fine_set s rs i r parts.1 one)

-- what an element that was read says
pub fine_read : (s : Slate) (rs : List AssertionRecord) (i : ℕ) (r : AssertionRecord) → i < length rs → r ≡ get_or rs i r → all_fine s rs ≡ true → fine_record s r ≡ true
fine_read s rs i r within is all = ap (fine_record s) is ∙ fine_at s rs i r within all

pub set_changed : (f : AssertionRecord → AssertionRecord) (rs : List AssertionRecord) (i : ℕ) (d : AssertionRecord) → i < length rs → set rs i (f (get_or rs i d)) ≡ changed_at f i rs
set_changed f [] i d within = absurd (omega arith)
set_changed f (r ∷ rs) zero d within = refl
set_changed f (r ∷ rs) (suc i) d within = ap (λ qs. r ∷ qs) (set_changed f rs i d (omega arith))

pub margin_read : (s : Slate) (rs qs : List AssertionRecord) (i : ℕ) (r : AssertionRecord) → qs ≡ rs → i < length qs → r ≡ get_or qs i r → all_fine s rs ≡ true → nat_abs r.margin ≤ most_value
margin_read s rs qs i r same within is all =
    let here = fine_read s qs i r within is (ap (all_fine s) same ∙ all) in
    leb-true (nat_abs r.margin) most_value (and_parts (fits s r.assertion) _ here).1
