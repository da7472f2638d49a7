-- What a set's binary digits say of its members: the laws of `has` and `with`.
use Rattle.std.proofs.Common.{◌≡◌, ℕ, zero, suc, ◌+◌, ◌-◌, ◌/◌, ◌%◌, ◌^◌, ◌<◌, ◌≤◌, max, Bool, true, false, cond, not, ◌&&◌, ◌||◌, eqb, ltb, List, [], ◌∷◌, sym, refl, ap, ◌∙◌, subst, ⊎_elim, one-mul, arith, pow_pos, pow_mono, pow-add, shr-shr}
use native.Mathlib.Nat.{two-pow-succ, div-eq_of_lt}
use lib.Bits.{bit_and, bit_or, bit_xor, and_mask, or_shr, or_step, xor_shr, xor_step, differ}
use lib.Pow.{pow-lt, shl-shr}
use Rattle.std.proofs.lemmas.Bool.{cases_order, eq-eqb, ne_eqb, eqb-true, eqb-false, cases_Bool, lt-ltb, cases_lt, both_ways}
use Rattle.std.proofs.lemmas.Bool.Decides.{nat_tests}
use Rattle.irv.specs.Sets.{Set, empty, has, with, set_of}
use Rattle.irv.specs.Ballots.{mem}

-- the digit of R at k
abbrev bit : Set → ℕ → ℕ
bit R k = R / 2 ^ k % 2

or_bit : (a b k : ℕ) → bit (bit_or a b) k ≡ max (bit a k) (bit b k)
or_bit a b k = rw or_shr (omega (arith, or_step (a / 2 ^ k) (b / 2 ^ k)))

pow_bit_same : (k : ℕ) → bit (2 ^ k) k ≡ 1
pow_bit_same k = ap (λ x. x % 2) (ap (λ x. x / 2 ^ k) (sym (one-mul (2 ^ k))) ∙ shl-shr 1 k)

pow_bit_above : (j k : ℕ) → j < k → bit (2 ^ j) k ≡ 0
pow_bit_above j k h = ap (λ x. x % 2) (div-eq_of_lt (pow-lt h))

pow_bit_below : (j k : ℕ) → k < j → bit (2 ^ j) k ≡ 0
pow_bit_below j k h =
    let m : ℕ = j - k - 1 in
    let e : j ≡ suc m + k = omega arith in
    let p : 2 ^ j / 2 ^ k ≡ 2 ^ suc m = ap (λ x. 2 ^ x / 2 ^ k) e ∙ ap (λ x. x / 2 ^ k) (pow-add 2 (suc m) k) ∙ shl-shr (2 ^ suc m) k in
    ap (λ x. x % 2) (p ∙ two-pow-succ m) ∙ omega arith

pow_bit : (j k : ℕ) → bit (2 ^ j) k ≡ cond (eqb j k) 1 0
pow_bit j k =
    ⊎_elim (λ e. ap (bit (2 ^ j)) (sym e) ∙ pow_bit_same j ∙ sym (ap (λ b. cond b 1 0) (eq-eqb j k e)))
    (⊎_elim (λ h. pow_bit_above j k h ∙ sym (ap (λ b. cond b 1 0) (ne_eqb j k (omega arith))))
    (λ h. pow_bit_below j k h ∙ sym (ap (λ b. cond b 1 0) (ne_eqb j k (omega arith)))))
    (cases_order j k)

-- numbers with the same digits are the same
same_digits : (n a b : ℕ) → a < 2 ^ n → b < 2 ^ n → ((k : ℕ) → bit a k ≡ bit b k) → a ≡ b
same_digits zero a b ha hb same = omega arith
same_digits (suc n) a b ha hb same =
    let up = two-pow-succ n in
    let half : a / 2 ≡ b / 2 = same_digits n (a / 2) (b / 2) (omega arith) (omega arith) (λ k. ap (λ x. x % 2) (shr-shr a 1 k) ∙ same (1 + k) ∙ sym (ap (λ x. x % 2) (shr-shr b 1 k))) in
    let low : a / 1 % 2 ≡ b / 1 % 2 = same 0 in
    omega arith

below_power : (a : ℕ) → a < 2 ^ a
below_power zero = omega arith
below_power (suc a) = omega (arith, below_power a, two-pow-succ a)

has_digit : (R : Set) (k : ℕ) → has R (k + 1) ≡ eqb (bit R k) 1
unfolding has
has_digit R k = let e : k + 1 - 1 ≡ k = omega arith in rw (e, lt-ltb 0 (k + 1) (omega arith)) refl

pub zero_in_none : (R : Set) → has R 0 ≡ false
unfolding has
zero_in_none R = refl

pub none_in_empty : (c : ℕ) → has empty c ≡ false
unfolding has empty
none_in_empty c = let e : 0 / 2 ^ (c - 1) ≡ 0 = div-eq_of_lt (pow_pos (c - 1)) in rw e (and_false (ltb 0 c))
  where
    and_false : (b : Bool) → (b && false) ≡ false
    and_false true = refl
    and_false false = refl

-- a number is 0, or one more than another
from_one : (P : ℕ → Type 0) → P 0 → ((k : ℕ) → P (k + 1)) → (c : ℕ) → P c
from_one P none some c = ⊎_elim (λ h. let e : 0 ≡ c = omega arith in subst P e none) (λ h. let e : c - 1 + 1 ≡ c = omega arith in subst P e (some (c - 1))) (cases_lt c 1)

pub same_members : (R S : Set) → ((c : ℕ) → has R c ≡ has S c) → R ≡ S
same_members R S same =
    same_digits (R + S) R S (above R (R + S) (omega arith)) (above S (R + S) (omega arith)) digit
  where
    above : (a b : ℕ) → a ≤ b → a < 2 ^ b
    above a b h = omega (arith, below_power a, pow_mono h)

    digit : (k : ℕ) → bit R k ≡ bit S k
    digit k = let e : eqb (bit R k) 1 ≡ eqb (bit S k) 1 = sym (has_digit R k) ∙ same (k + 1) ∙ has_digit S k in
        ⊎_elim (λ h. omega (arith, eqb-true _ _ h, eqb-true _ _ (sym e ∙ h))) (λ h. omega (arith, eqb-false _ _ h, eqb-false _ _ (sym e ∙ h))) (cases_Bool (eqb (bit R k) 1))

-- a digit of two sets together
one_of : (x y : ℕ) → x < 2 → y < 2 → eqb (max x y) 1 ≡ (eqb y 1 || eqb x 1)
one_of x y hx hy = grind (arith, nat_tests)

with_at : (j : ℕ) (R : Set) → with (j + 1) R ≡ bit_or R (2 ^ j)
unfolding with
with_at j R = let e : j + 1 - 1 ≡ j = omega arith in rw (e, lt-ltb 0 (j + 1) (omega arith)) refl

with_zero : (R : Set) → with 0 R ≡ R
unfolding with
with_zero R = refl

shifted_eqb : (j k : ℕ) → eqb (j + 1) (k + 1) ≡ eqb j k
shifted_eqb j k = grind (arith, nat_tests)

pow_digit : (j k : ℕ) → eqb (bit (2 ^ j) k) 1 ≡ eqb j k
pow_digit j k = ap (λ x. eqb x 1) (pow_bit j k) ∙ flag (eqb j k)
  where
    flag : (b : Bool) → eqb (cond b 1 0) 1 ≡ b
    flag true = refl
    flag false = refl

pub one_more : (c d : ℕ) (R : Set) → has (with c R) d ≡ ((ltb 0 c && eqb c d) || has R d)
one_more c d R = from_one (λ x. has (with x R) d ≡ ((ltb 0 x && eqb x d) || has R d)) (ap (λ S. has S d) (with_zero R)) (λ j. from_one (λ x. has (with (j + 1) R) x ≡ ((ltb 0 (j + 1) && eqb (j + 1) x) || has R x)) (at_zero j) (at_some j) d) c
  where
    at_zero : (j : ℕ) → has (with (j + 1) R) 0 ≡ ((ltb 0 (j + 1) && eqb (j + 1) 0) || has R 0)
    at_zero j = zero_in_none (with (j + 1) R) ∙ sym (rw (zero_in_none R, ne_eqb (j + 1) 0 (omega arith), lt-ltb 0 (j + 1) (omega arith)) refl)

    at_some : (j k : ℕ) → has (with (j + 1) R) (k + 1) ≡ ((ltb 0 (j + 1) && eqb (j + 1) (k + 1)) || has R (k + 1))
    at_some j k = rw (lt-ltb 0 (j + 1) (omega arith), shifted_eqb j k, has_digit (with (j + 1) R) k, has_digit R k, with_at j R, or_bit R (2 ^ j) k) (one_of (bit R k) (bit (2 ^ j) k) (omega arith) (omega arith) ∙ ap (λ b. b || eqb (bit R k) 1) (pow_digit j k))

-- the members of a list, as a set
pub listed : (cs : List ℕ) (d : ℕ) → has (set_of cs) d ≡ (ltb 0 d && mem d cs)
listed [] d = none_in_empty d ∙ sym (and_false (ltb 0 d))
  where
    and_false : (b : Bool) → (b && false) ≡ false
    and_false true = refl
    and_false false = refl
listed (c ∷ cs) d = one_more c d (set_of cs) ∙ ap (λ b. (ltb 0 c && eqb c d) || b) (listed cs d) ∙ step (mem d cs)
  where
    step : (m : Bool) → ((ltb 0 c && eqb c d) || (ltb 0 d && m)) ≡ (ltb 0 d && (eqb c d || m))
    step true = grind (arith, nat_tests)
    step false = grind (arith, nat_tests)

-- a set whose digits lie below k has nobody above k
pub none_above : (k : ℕ) (R : Set) (c : ℕ) → R < 2 ^ k → k < c → has R c ≡ false
unfolding has
none_above k R c small above =
    let e : R / 2 ^ (c - 1) ≡ 0 = div-eq_of_lt (omega (arith, pow_mono {i = k} {j = c - 1} (omega arith))) in
    rw (e, lt-ltb 0 c (omega arith)) refl

-- the test of one digit
pub has_by_mask : (R : Set) (c : ℕ) → 1 ≤ c → eqb (bit_and (R / 2 ^ (c - 1)) 1) 1 ≡ has R c
unfolding has
has_by_mask R c some = rw (lt-ltb 0 c some) (ap (λ x. eqb x 1) (and_mask (R / 2 ^ (c - 1)) 1))

pub with_by_or : (R : Set) (c : ℕ) → 1 ≤ c → bit_or R (2 ^ (c - 1)) ≡ with c R
unfolding with
with_by_or R c some = rw (lt-ltb 0 c some) refl

-- what holds of 0 and of 1 holds of a digit
two_ways : (P : ℕ → Type 0) → P 0 → P 1 → (x : ℕ) → x < 2 → P x
two_ways P none one x h = ⊎_elim (λ l. let e : 0 ≡ x = omega arith in subst P e none) (λ l. let e : 1 ≡ x = omega arith in subst P e one) (cases_lt x 1)

differ_small : (x y : ℕ) → x < 2 → y < 2 → differ x y < 2
differ_small x y hx hy = two_ways (λ x. differ x y < 2) (two_ways (λ y. differ 0 y < 2) (omega arith) (omega arith) y hy) (two_ways (λ y. differ 1 y < 2) (omega arith) (omega arith) y hy) x hx

differ_digit : (b : Bool) (x : ℕ) → x < 2 → eqb (differ x (cond b 1 0)) 1 ≡ cond b (not (eqb x 1)) (eqb x 1)
differ_digit true x h = two_ways (λ x. eqb (differ x 1) 1 ≡ not (eqb x 1)) refl refl x h
differ_digit false x h = two_ways (λ x. eqb (differ x 0) 1 ≡ eqb x 1) refl refl x h

xor_bit : (a b k : ℕ) → bit (bit_xor a b) k ≡ differ (bit a k) (bit b k)
xor_bit a b k = rw xor_shr (omega (arith, xor_step (a / 2 ^ k) (b / 2 ^ k), differ_small (bit a k) (bit b k) (omega arith) (omega arith)))

-- one digit turned
turned : (R : Set) (j k : ℕ) → has (bit_xor R (2 ^ j)) (k + 1) ≡ cond (eqb j k) (not (has R (k + 1))) (has R (k + 1))
turned R j k = rw (has_digit (bit_xor R (2 ^ j)) k, has_digit R k, xor_bit R (2 ^ j) k, pow_bit j k) (differ_digit (eqb j k) (bit R k) (omega arith))

-- a member taken out: it is gone, and put back it gives the same set
pub taken_out : (R : Set) (c : ℕ) → has R c ≡ true → (has (bit_xor R (2 ^ (c - 1))) c ≡ false) × (with c (bit_xor R (2 ^ (c - 1))) ≡ R)
taken_out R c in' = from_one (λ c. has R c ≡ true → (has (bit_xor R (2 ^ (c - 1))) c ≡ false) × (with c (bit_xor R (2 ^ (c - 1))) ≡ R)) (λ h. absurd (both_ways (has R 0) (zero_in_none R) h)) some c in'
  where
    back : (j : ℕ) → has R (j + 1) ≡ true → (k : ℕ) → (eqb j k || cond (eqb j k) (not (has R (k + 1))) (has R (k + 1))) ≡ has R (k + 1)
    back j h k = go (eqb j k) refl
      where
        go : (b : Bool) → eqb j k ≡ b → (b || cond b (not (has R (k + 1))) (has R (k + 1))) ≡ has R (k + 1)
        go true e = sym (ap (λ x. has R (x + 1)) (sym (eqb-true j k e)) ∙ h)
        go false e = refl

    same : (j : ℕ) → has R (j + 1) ≡ true → (d : ℕ) → has (with (j + 1) (bit_xor R (2 ^ j))) d ≡ has R d
    same j h = from_one (λ d. has (with (j + 1) (bit_xor R (2 ^ j))) d ≡ has R d) (zero_in_none _ ∙ sym (zero_in_none R)) (λ k. one_more (j + 1) (k + 1) (bit_xor R (2 ^ j)) ∙ rw (lt-ltb 0 (j + 1) (omega arith), shifted_eqb j k, turned R j k) (back j h k))

    some : (j : ℕ) → has R (j + 1) ≡ true → (has (bit_xor R (2 ^ (j + 1 - 1))) (j + 1) ≡ false) × (with (j + 1) (bit_xor R (2 ^ (j + 1 - 1))) ≡ R)
    some j h =
        let e : j + 1 - 1 ≡ j = omega arith in
        rw e (turned R j j ∙ rw (eq-eqb j j refl, h) refl, same_members (with (j + 1) (bit_xor R (2 ^ j))) R (same j h))

-- the members of two sets together
pub either_member : (R S : Set) (c : ℕ) → has (bit_or R S) c ≡ (has R c || has S c)
either_member R S = from_one (λ c. has (bit_or R S) c ≡ (has R c || has S c)) (zero_in_none (bit_or R S) ∙ sym (ap (λ b. b || has S 0) (zero_in_none R) ∙ zero_in_none S)) (λ k. rw (has_digit (bit_or R S) k, has_digit R k, has_digit S k, or_bit R S k) (either (bit R k) (bit S k) (omega arith) (omega arith)))
  where
    either : (x y : ℕ) → x < 2 → y < 2 → eqb (max x y) 1 ≡ (eqb x 1 || eqb y 1)
    either x y hx hy = grind (arith, nat_tests)
