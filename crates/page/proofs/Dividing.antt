-- Quotients, also by 0 and rounded up.
use Rattle.std.proofs.Common.{◌≡◌, ℕ, zero, suc, ◌+◌, ◌-◌, ◌*◌, ◌/◌, ◌%◌, ◌<◌, Some, None, Option, add-mul, mod-lt, sym, refl, ap, ◌∙◌, arith}
use Rattle.std.specs.Option.{SomeIff, unwrap_or}
use Rattle.std.specs.Int.{div_ceil}
use Rattle.std.proofs.Math.Nat.{div-zero}
use Rattle.std.proofs.lemmas.Nat.{div-mul-add, div-add-mod'}

-- by 0 it is 0
pub divided : (o : Option ℕ) (a w : ℕ) → SomeIff o (0 < w) (a / w) → unwrap_or o 0 ≡ a / w
divided None a zero h = sym (div-zero a)
divided None a (suc w) h = absurd (h (omega arith))
divided (Some x) a w h = h.1

pub rounds_up : (x d : ℕ) → 0 < d → div_ceil x d ≡ (x + (d - 1)) / d
rounds_up x d some = by (x % d) refl
  where
    -- the quotient of what is left above it
    above : (q b : ℕ) → x + (d - 1) ≡ q * d + b → b < d → (x + (d - 1)) / d ≡ q
    above q b e small = ap (λ y. y / d) e ∙ div-mul-add q d b small

    by : (r : ℕ) → x % d ≡ r → div_ceil x d ≡ (x + (d - 1)) / d
    by zero e = omega (arith, e, above (x / d) (d - 1) (omega (arith, e, div-add-mod' x d)) (omega arith))
    by (suc r) e = omega (arith, e, above (x / d + 1) r (omega (arith, e, div-add-mod' x d, add-mul (x / d) 1 d)) (omega (arith, e, mod-lt x some)))
