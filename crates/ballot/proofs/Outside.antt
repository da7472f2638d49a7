-- A number outside 1 to 16 is in no set.
use Rattle.std.proofs.Common.{◌≡◌, ℕ, ◌<◌, ◌^◌, false, sym, ap, ◌∙◌, arith}
use Rattle.irv.specs.Sets.{Set, has}
use Rattle.irv.proofs.Bits.{zero_in_none, none_above}

pub nobody_below : (R : Set) (c : ℕ) → c < 1 → false ≡ has R c
nobody_below R c low = let e : c ≡ 0 = omega arith in sym (ap (has R) e ∙ zero_in_none R)

pub nobody_above : (R : Set) (c : ℕ) → R < 2 ^ 16 → 16 < c → false ≡ has R c
nobody_above R c small high = sym (none_above 16 R c small high)
