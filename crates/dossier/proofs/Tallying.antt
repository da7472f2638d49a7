-- The records of a dossier while their margins grow, group by group.
use Rattle.std.proofs.Common.{◌≡◌, ℕ, zero, suc, ◌+◌, ◌-◌, ◌*◌, ◌^◌, ◌<◌, ◌≤◌, ⊎_elim, true, false, cond, leb, List, [], ◌∷◌, ◌++◌, map, length, get_or, set, take, drop, w64, to_z, of_z, SFits, ℤ, pos, ◌+ℤ◌, ◌-ℤ◌, ◌*ℤ◌, negsuc, nat_abs, None, sym, refl, ap, ◌∙◌, add-zero, mul-zero, mul-add, arith}
use borrow.Author.Differences.{abs_is}
use Rattle.std.proofs.lemmas.List.{take_more, get_or_default, get_or-drop, get_or-map, length-map}
use Rattle.std.proofs.lemmas.Int.{ints, to_z-of_z, fits_signed_from_abs, fits_signed_mul}
use Rattle.std.proofs.lemmas.List.Edits.{map_over_more}
use Rattle.std.proofs.lemmas.Bool.{cases_lt}
use Rattle.std.proofs.Math.Nat.{add-mul}
use Rattle.std.proofs.lemmas.List.Sums.{sum_by_push, sum_by-take-le}
use Rattle.std.proofs.lemmas.Bool.{and_parts, and_from, leb-true, le-leb}
use Rattle.irv.specs.Ballots.{Slate, BallotGroup, Fits, ballots, most_ballots}
use Rattle.irv.specs.Assertions.{judged, margin, value_sum}
use Rattle.assertion.specs.Kinds.{written_kind, value_kind, half_kind}
use Rattle.assertion.specs.Sums.{most_value}
use Rattle.assertion.specs.declared.assertion.Assertion.{Assertion}
use Rattle.irv.proofs.Adding.{next_within}
use Rattle.assertion.specs.Sound.{any_kind_law}
use Rattle.assertion.proofs.Summing.{sum_small, halves_fit}
use Rattle.audit.specs.Calls.{retallied}
use Rattle.audit.specs.declared.records.AssertionRecord.{AssertionRecord}
use Rattle.dossier.specs.Fine.{fits, fine_record, all_fine}
use Rattle.dossier.specs.Tallies.{gain_of, Bounded, with_margin, cleared, with_group}
use Rattle.dossier.proofs.Keeping.{fits_none, fine_at}

-- records changed by f one after the other: those before place i are, and the others are not yet
module _ (f : AssertionRecord → AssertionRecord) where
  abbrev pub partly : ℕ → List AssertionRecord → List AssertionRecord
  partly i rs = map f (take i rs) ++ drop i rs

  pub length_partly : (i : ℕ) (rs : List AssertionRecord) → length (partly i rs) ≡ length rs
  length_partly zero rs = refl
  length_partly (suc i) [] = refl
  length_partly (suc i) (r ∷ rs) = ap suc (length_partly i rs)

  pub partly_at : (i : ℕ) (rs : List AssertionRecord) (d : AssertionRecord) → i < length rs → get_or (partly i rs) i d ≡ get_or rs i d
  partly_at i [] d within = absurd (omega arith)
  partly_at zero (r ∷ rs) d within = refl
  partly_at (suc i) (r ∷ rs) d within = partly_at i rs d (omega arith)

map_map : (f g h : AssertionRecord → AssertionRecord) → ((r : AssertionRecord) → f (g r) ≡ h r) → (rs : List AssertionRecord) → map f (map g rs) ≡ map h rs
map_map f g h same [] = refl
map_map f g h same (r ∷ rs) = ap (λ x. x ∷ map f (map g rs)) (same r) ∙ ap (λ qs. h r ∷ qs) (map_map f g h same rs)

-- before any group the margin is 0, and one group more adds its gain
module _ (s : Slate) where
  none_yet : (value : List ℕ → ℕ) (half : ℕ) → pos 0 ≡ margin value half s []
  none_yet value half = omega (arith, ints, mul-zero half)

  pub cleared_is : (rs : List AssertionRecord) → map cleared rs ≡ map (retallied s []) rs
  cleared_is [] = refl
  cleared_is (r ∷ rs) =
      ap (λ m. with_margin (cond r.live m r.margin) r ∷ map cleared rs) (none_yet (value_kind r.assertion) (half_kind r.assertion)) ∙ ap (λ qs. retallied s [] r ∷ qs) (cleared_is rs)

  one_more : (a : Assertion) (gs : List BallotGroup) (g : BallotGroup) → margin (value_kind a) (half_kind a) s gs +ℤ gain_of a g ≡ margin (value_kind a) (half_kind a) s (gs ++ (g ∷ []))
  one_more a gs g =
      let halves : half_kind a * ballots (gs ++ (g ∷ [])) ≡ half_kind a * ballots gs + half_kind a * g.count = ap (λ n. half_kind a * n) (sum_by_push (λ g. g.count) gs g) ∙ mul-add (half_kind a) (ballots gs) g.count in
      omega (arith, ints, halves, sum_by_push (λ g. value_kind a g.ranking * g.count) gs g)

  more_record : (gs : List BallotGroup) (g : BallotGroup) (r : AssertionRecord) → with_group g (retallied s gs r) ≡ retallied s (gs ++ (g ∷ [])) r
  more_record gs g r =
      elim r.live as (λ b. with_margin (cond b (cond b (margin (value_kind r.assertion) (half_kind r.assertion) s gs) r.margin +ℤ gain_of r.assertion g) (cond b (margin (value_kind r.assertion) (half_kind r.assertion) s gs) r.margin)) r ≡ with_margin (cond b (margin (value_kind r.assertion) (half_kind r.assertion) s (gs ++ (g ∷ []))) r.margin) r) [ true ↦ ap (λ m. with_margin m r) (one_more r.assertion gs g) | false ↦ refl ]

  pub more_records : (gs : List BallotGroup) (g : BallotGroup) (rs : List AssertionRecord) → map (with_group g) (map (retallied s gs) rs) ≡ map (retallied s (gs ++ (g ∷ []))) rs
  more_records gs g rs = map_map (with_group g) (retallied s gs) (retallied s (gs ++ (g ∷ []))) (more_record gs g) rs

-- what fits is bounded, and so is its margin on few ballots
pub bounded : (s : Slate) (a : Assertion) → judged s (written_kind a) ≡ None → Bounded a
bounded s a fine = let law = any_kind_law a s fine in (λ r. omega (arith, law.within r, law.small), omega (arith, law.half_within, law.small))

margin_small : (s : Slate) (gs : List BallotGroup) (a : Assertion) → judged s (written_kind a) ≡ None → ballots gs ≤ most_ballots → nat_abs (margin (value_kind a) (half_kind a) s gs) ≤ most_value
margin_small s gs a fine few =
    let low = bounded s a fine in
    let sum : value_sum (value_kind a) s gs ≤ most_value = omega (arith, sum_small (value_kind a) s low.0 gs) in
    between (value_sum (value_kind a) s gs) (half_kind a * ballots gs) most_value sum (halves_fit (half_kind a) (ballots gs) low.1 few)
  where
    between : (m n top : ℕ) → m ≤ top → n ≤ top → nat_abs (pos m -ℤ pos n) ≤ top
    between m n top low high = omega (arith, ints, abs_is (pos m -ℤ pos n))

-- the records stay fine
pub fine_retallied : (s : Slate) (gs : List BallotGroup) (rs : List AssertionRecord) → ballots gs ≤ most_ballots → all_fine s rs ≡ true → all_fine s (map (retallied s gs) rs) ≡ true
fine_retallied s gs [] few fine = refl
fine_retallied s gs (r ∷ rs) few fine =
    let parts = and_parts (fine_record s r) (all_fine s rs) fine in
    let here = and_parts (fits s r.assertion) (leb (nat_abs r.margin) most_value) parts.0 in
    let small : leb (nat_abs (retallied s gs r).margin) most_value ≡ true =
    elim r.live as (λ b. leb (nat_abs (cond b (margin (value_kind r.assertion) (half_kind r.assertion) s gs) r.margin)) most_value ≡ true) [ true ↦ le-leb _ most_value (margin_small s gs r.assertion (fits_none s r.assertion here.0) few) | false ↦ here.1 ] in
    and_from (fine_record s (retallied s gs r)) (all_fine s (map (retallied s gs) rs)) (and_from (fits s r.assertion) _ here.0 small) (fine_retallied s gs rs few parts.1)

-- the groups up to the place, with the one that is handed out there
pub taken_more : (gs : List BallotGroup) (p : ℕ) (g : BallotGroup) → drop p gs ≡ g ∷ drop (p + 1) gs → take (p + 1) gs ≡ take p gs ++ (g ∷ [])
taken_more gs p g here = take_more gs p g (next_within gs p g (drop (p + 1) gs) here) ∙ ap (λ x. take p gs ++ (x ∷ [])) (first_of_rest gs p g here)
  where
    first_of_rest : (gs : List BallotGroup) (p : ℕ) (g : BallotGroup) → drop p gs ≡ g ∷ drop (p + 1) gs → get_or gs p g ≡ g
    first_of_rest gs p g here = sym (ap (λ n. get_or gs n g) (add-zero p)) ∙ sym (get_or-drop p gs 0 g) ∙ ap (λ l. get_or l 0 g) here

pub few_taken : (s : Slate) (gs : List BallotGroup) (p : ℕ) → Fits s gs → ballots (take p gs) ≤ most_ballots
few_taken s gs p fit = omega (arith, sum_by-take-le (λ g. g.count) gs p, fit.sum)

-- one turn of a loop that changes each record by f
module _ (f : AssertionRecord → AssertionRecord) (rs qs : List AssertionRecord) (i : ℕ) where
  -- the record at the place is not changed yet
  not_yet : (d : AssertionRecord) → i < length rs → qs ≡ partly f i rs → get_or qs i d ≡ get_or rs i d
  not_yet d within so_far = ap (λ ps. get_or ps i d) so_far ∙ partly_at f i rs d within

  pub next_turn : (r d : AssertionRecord) → i < length rs → qs ≡ partly f i rs → r ≡ f (get_or qs i d) → set qs i r ≡ partly f (i + 1) rs
  next_turn r d within so_far is =
      let inside : i < length qs = omega (arith, ap length so_far, length_partly f i rs) in
      ap (set qs i) is ∙ map_over_more f rs qs i (get_or qs i d) within so_far (get_or_default qs i d (get_or qs i d) inside)

-- the next record of records that will be fine with one group more
module _ (s : Slate) (g : BallotGroup) (rs qs : List AssertionRecord) (i : ℕ) (d : AssertionRecord) (within : i < length rs) (so_far : qs ≡ partly (with_group g) i rs) (fine : all_fine s (map (with_group g) rs) ≡ true) where
  next_fine : fine_record s (with_group g (get_or qs i d)) ≡ true
  next_fine =
      let f = with_group g in
      let also : i < length (map f rs) = omega (arith, length-map rs f) in
      ap (λ q. fine_record s (f q)) (not_yet f rs qs i d within so_far) ∙ ap (fine_record s) (sym (get_or-map f rs i d (f d) within)) ∙ fine_at s (map f rs) i (f d) also fine

  pub bounded_next : Bounded (get_or qs i d).assertion
  bounded_next = bounded s (get_or qs i d).assertion (fits_none s (get_or qs i d).assertion (and_parts (fits s (get_or qs i d).assertion) _ next_fine).0)

  pub small_next : nat_abs (with_group g (get_or qs i d)).margin ≤ most_value
  small_next = leb-true (nat_abs (with_group g (get_or qs i d)).margin) most_value (and_parts (fits s (get_or qs i d).assertion) _ next_fine).1

-- the margins on no group, on one group more, and from where a tally started
cleared_again : (s : Slate) (gs : List BallotGroup) (r : AssertionRecord) → retallied s gs (cleared r) ≡ retallied s gs r
cleared_again s gs r =
    elim r.live as (λ b. with_margin (cond b (margin (value_kind r.assertion) (half_kind r.assertion) s gs) (cond b (pos 0) r.margin)) r ≡ with_margin (cond b (margin (value_kind r.assertion) (half_kind r.assertion) s gs) r.margin) r) [ true ↦ refl | false ↦ refl ]

pub from_cleared : (s : Slate) (gs : List BallotGroup) (rs : List AssertionRecord) → map (retallied s gs) (map cleared rs) ≡ map (retallied s gs) rs
from_cleared s gs rs = map_map (retallied s gs) cleared (retallied s gs) (cleared_again s gs) rs

pub cleared_twice : (rs : List AssertionRecord) → map cleared rs ≡ map cleared (map cleared rs)
cleared_twice rs = sym (map_map cleared cleared cleared (λ r. elim r.live as (λ b. with_margin (cond b (pos 0) (cond b (pos 0) r.margin)) r ≡ with_margin (cond b (pos 0) r.margin) r) [ true ↦ refl | false ↦ refl ]) rs)

pub fine_cleared : (s : Slate) (rs : List AssertionRecord) → all_fine s rs ≡ true → all_fine s (map cleared rs) ≡ true
fine_cleared s rs fine = ap (all_fine s) (cleared_is s rs) ∙ fine_retallied s [] rs (omega arith) fine

pub fine_more : (s : Slate) (gs : List BallotGroup) (g : BallotGroup) (rs qs : List AssertionRecord) → qs ≡ map (retallied s gs) rs → ballots (gs ++ (g ∷ [])) ≤ most_ballots → all_fine s rs ≡ true → all_fine s (map (with_group g) qs) ≡ true
fine_more s gs g rs qs so_far few fine =
    ap (λ ps. all_fine s (map (with_group g) ps)) so_far ∙ ap (all_fine s) (more_records s gs g rs) ∙ fine_retallied s (gs ++ (g ∷ [])) rs few fine

pub fine_tallied : (s t : Slate) (gs : List BallotGroup) (rs qs : List AssertionRecord) → t ≡ s → qs ≡ map (retallied t gs) rs → ballots gs ≤ most_ballots → all_fine s rs ≡ true → all_fine s qs ≡ true
fine_tallied s t gs rs qs same is few fine = ap (all_fine s) (is ∙ ap (λ u. map (retallied u gs) rs) same) ∙ fine_retallied s gs rs few fine

-- a difference times a number
times : (v h n : ℕ) → (pos v -ℤ pos h) *ℤ pos n ≡ pos (v * n) -ℤ pos (h * n)
times v h n = ⊎_elim below above (cases_lt v h)
  where
    below : v < h → (pos v -ℤ pos h) *ℤ pos n ≡ pos (v * n) -ℤ pos (h * n)
    below low =
        let m = h - suc v in
        let by : pos v -ℤ pos h ≡ negsuc m = omega (arith, ints) in
        let parts : h * n ≡ v * n + suc m * n = (let e : h ≡ v + suc m = omega arith in ap (λ k. k * n) e ∙ add-mul v (suc m) n) in
        ap (λ z. z *ℤ pos n) by ∙ omega (arith, ints, parts)

    above : h ≤ v → (pos v -ℤ pos h) *ℤ pos n ≡ pos (v * n) -ℤ pos (h * n)
    above high =
        let m = v - h in
        let by : pos v -ℤ pos h ≡ pos m = omega (arith, ints) in
        let parts : v * n ≡ h * n + m * n = (let e : v ≡ h + m = omega arith in ap (λ k. k * n) e ∙ add-mul h m n) in
        ap (λ z. z *ℤ pos n) by ∙ omega (arith, ints, parts)

-- the gain of values, a half and a count that are small, as the code computes it
module _ (x y z : ℤ) (v h n : ℕ) (xv : x ≡ pos v) (yh : y ≡ pos h) (zn : z ≡ pos n) (value : v ≤ 1000) (half : h ≤ 1000) (few : n < 2 ^ 32) where
  abbrev above : ℤ
  above = to_z w64 (of_z w64 (to_z w64 (of_z w64 x) -ℤ to_z w64 (of_z w64 y)))

  above_is : above ≡ pos v -ℤ pos h
  above_is =
      let first : SFits w64 (pos v) = fits_signed_from_abs w64 (pos v) (omega arith) in
      let second : SFits w64 (pos h) = fits_signed_from_abs w64 (pos h) (omega arith) in
      let difference : SFits w64 (pos v -ℤ pos h) = fits_signed_from_abs w64 (pos v -ℤ pos h) (omega (arith, ints, abs_is (pos v -ℤ pos h))) in
      rw (xv, yh) (simp to_z-of_z)

  count_is : to_z w64 (of_z w64 z) ≡ pos n
  count_is =
      let third : SFits w64 (pos n) = fits_signed_from_abs w64 (pos n) (omega arith) in
      rw zn (simp to_z-of_z)

  pub gain_fits : SFits w64 (above *ℤ to_z w64 (of_z w64 z))
  gain_fits = rw (above_is, count_is) (fits_signed_mul w64 (pos v -ℤ pos h) (pos n) 1000 (2 ^ 32) (omega (arith, ints, abs_is (pos v -ℤ pos h))) (omega arith) (omega arith))

  pub gain_told : to_z w64 (of_z w64 (above *ℤ to_z w64 (of_z w64 z))) ≡ pos (v * n) -ℤ pos (h * n)
  gain_told = to_z-of_z w64 _ gain_fits ∙ rw (above_is, count_is) (times v h n)
