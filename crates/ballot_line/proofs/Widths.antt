-- How many bytes numbers take.
use Rattle.std.proofs.Common.{◌≡◌, ℕ, zero, suc, ◌+◌, ◌*◌, ◌/◌, ◌^◌, ◌<◌, ◌≤◌, max, List, [], ◌∷◌, ◌++◌, length, get_or, take, decimal, ap, sym, ◌∙◌, arith, length-append}
use Rattle.std.proofs.Math.Nat.{pow-succ'}
use Rattle.std.proofs.lemmas.Fmt.{decimal_digit, decimal_step, length-decimal-le}
use Rattle.std.proofs.lemmas.List.{get_or-take, length-take}
use Rattle.std.proofs.lemmas.List.Concat.{length-flat_map}
use Rattle.std.proofs.lemmas.List.Elements.{All-from_get_or}
use Rattle.std.proofs.lemmas.List.Sums.{sum_by-le}
use Rattle.std.specs.List.{flat_map, sum_by}
use Rattle.forms.specs.Written.{comma}

pub digit_more : (n : ℕ) → 10 ≤ n → n < 2 ^ 32 → length (decimal n) ≡ length (decimal (n / 10)) + 1
digit_more n h small = ap length (decimal_step n h (omega arith)) ∙ length-append (decimal (n / 10)) _

pos_pow : (k : ℕ) → 1 ≤ 10 ^ k
pos_pow zero = omega arith
pos_pow (suc k) = omega (arith, pow-succ' 10 k, pos_pow k)

-- a number from the k-th power of ten up to the next has k + 1 digits
power_length : (k n : ℕ) → 10 ^ k ≤ n → n < 10 * 10 ^ k → n < 2 ^ 32 → length (decimal n) ≡ k + 1
power_length zero n low high small = ap length (decimal_digit n (omega arith))
power_length (suc k) n low high small =
    omega (arith, digit_more n (omega (arith, pow-succ' 10 k)) small, power_length k (n / 10) (omega (arith, pow-succ' 10 k)) (omega (arith, pow-succ' 10 k)) (omega arith))

-- the same where a zero counts as one
pub digits_length : (n k : ℕ) → 10 ^ k ≤ max n 1 → max n 1 < 10 * 10 ^ k → n < 2 ^ 32 → length (decimal n) ≡ k + 1
digits_length zero zero low high small = ap length (decimal_digit 0 (omega arith))
digits_length zero (suc k) low high small = absurd (omega (arith, pow-succ' 10 k, pos_pow k))
digits_length (suc n) k low high small = power_length k (suc n) (omega arith) (omega arith) small

-- the bytes of the numbers, each with the comma behind it
pub comma_bytes : (vs : List ℕ) → sum_by (λ v. length (decimal v) + 1) vs ≡ length (flat_map (λ v. decimal v ++ (comma ∷ [])) vs)
comma_bytes vs = sym (length-flat_map (λ v. decimal v ++ (comma ∷ [])) vs ∙ simp length-append)

pub few_bytes : (vs : List ℕ) → ((i : ℕ) → i < length vs → get_or vs i 0 < 2 ^ 32) → sum_by (λ v. length (decimal v) + 1) vs ≤ length vs * 11
few_bytes vs fit =
    sum_by-le (λ v. length (decimal v) + 1) 11 vs
    (All-from_get_or (λ v. length (decimal v) + 1 ≤ 11) vs 0 λ i h. let d : get_or vs i 0 < 2 ^ 32 = fit i h in omega (arith, length-decimal-le 10 (get_or vs i 0) (omega arith) (omega arith) (omega arith)))

pub taken_fits : (vs : List ℕ) (n i : ℕ) → ((k : ℕ) → get_or vs k 0 < 2 ^ 32) → i < length (take n vs) → get_or (take n vs) i 0 < 2 ^ 32
taken_fits vs n i fit h = rw (get_or-take n vs i 0 (omega (arith, h, length-take n vs))) (fit i)
