-- The numbers that a set has room for, and what it is to take a candidate out.
use Rattle.std.specs.Prelude.{◌≡◌, ℕ, Bool, true, false, ◌&&◌, nat_le}
use Rattle.irv.specs.Sets.{Set, has, with}

-- the numbers that a set has room for
abbrev pub in_range : ℕ → Bool
in_range c = nat_le 1 c && nat_le c 16

-- taken out of R, c is gone, and put back it gives R again; else nothing changed
abbrev pub Removed : Bool → ℕ → Set → Set → Type 0
Removed true c R S = (has S c ≡ false) × (with c S ≡ R)
Removed false c R S = S ≡ R
