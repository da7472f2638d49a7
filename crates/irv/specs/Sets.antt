-- Sets of candidates: who is in a set, and the set with one more.
use Rattle.std.specs.Prelude.{ℕ, zero, suc, ◌-◌, ◌/◌, ◌%◌, ◌^◌, Bool, cond, ◌&&◌, List, [], ◌∷◌, ◌==◌, bit_or, nat_lt}

-- a set of candidates: candidate c, from 1, is in it where the binary digit at c - 1 is 1
abbrev pub Set : Type 0
Set = ℕ

unfoldable pub empty : Set
empty = 0

unfoldable pub has : Set → ℕ → Bool
has R c = nat_lt 0 c && R / 2 ^ (c - 1) % 2 == 1

-- R and c in one set; 0 is no candidate and adds nothing
unfoldable pub with : ℕ → Set → Set
with c R = cond (nat_lt 0 c) (bit_or R (2 ^ (c - 1))) R

abbrev pub set_of : List ℕ → Set
set_of [] = empty
set_of (c ∷ cs) = with c (set_of cs)

-- every member of R is in S
unfoldable pub within : Set → Set → Bool
within R S = bit_or R S == S

-- the set of the candidates 1 to n
abbrev pub first_candidates : ℕ → Set
first_candidates zero = empty
first_candidates (suc n) = with (suc n) (first_candidates n)
