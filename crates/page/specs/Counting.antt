-- What it means to count bytes in 64 bits.
use Rattle.std.specs.Prelude.{◌≡◌, ℕ, ◌+◌, ◌-◌, ◌^◌, ◌<◌, min, List, length}
use Rattle.std.proofs.Common.{arith, length-append}
use Rattle.page.specs.Sinks.{Joins}
use Rattle.page.specs.declared.page_length.PageLength.{PageLength}

abbrev pub length_of : PageLength → ℕ
length_of x = x.bytes

pub length_small : (x : PageLength) → length_of x < 2 ^ 64
length_small x = x.small

-- the count stops at the largest number of 64 bits
pub record Counted (m : ℕ) (bs : List ℕ) (n : ℕ) : Type 0 where
  pub count : n ≡ min (m + length bs) (2 ^ 64 - 1)

pub counted_joins : {X : Type 0} (count : X → ℕ) → ((x : X) → count x < 2 ^ 64) → Joins (λ (x : X) bs y. Counted (count x) bs (count y))
counted_joins count small = record {
  none = λ x. record { count = omega (arith, small x) };
  more = λ x y z bs cs p q. record { count = omega (arith, p.count, q.count, length-append bs cs) };
}

-- below that it is exact
pub counted_exact : {m n : ℕ} {bs : List ℕ} → Counted m bs n → m + length bs < 2 ^ 64 → n ≡ m + length bs
counted_exact p fits = omega (arith, p.count)
