-- Tallies group by group: who is out has none, and nobody has more than all.
use Rattle.std.proofs.Common.{◌≡◌, ℕ, ◌≤◌, Bool, true, false, cond, leb, List, [], ◌∷◌, length, Some, sum_by, sym, refl, ap, ◌∙◌, arith}
use Rattle.std.proofs.lemmas.List.Sums.{sum_by-cons}
use Rattle.std.proofs.lemmas.Bool.{ne_eqb, both_ways, and_parts, leb-true}
use Rattle.irv.specs.Sets.{Set, has}
use Rattle.irv.specs.Ballots.{Slate, ranks, BallotGroup, fits_group, all_fit, ballots, owner, is_owned, belongs, worth, tally}

pub nobody_out : (R : Set) (r : List ℕ) (c : ℕ) → has R c ≡ false → belongs R r c ≡ false
nobody_out R [] c out = refl
nobody_out R (x ∷ r) c out = by_first (nobody_out R r c out) (has R x) refl
  where
    by_first : belongs R r c ≡ false → (b : Bool) → has R x ≡ b → is_owned (cond b (Some x) (owner R r)) c ≡ false
    by_first later true e = ne_eqb x c (λ same. both_ways (has R c) out (ap (has R) (sym same) ∙ e))
    by_first later false e = later

-- each group of one sum is at most, or the same as, its like in another
pub sums_le : {X : Type 0} (f g : X → ℕ) → ((x : X) → f x ≤ g x) → (xs : List X) → sum_by f xs ≤ sum_by g xs
sums_le f g le [] = omega arith
sums_le f g le (x ∷ xs) = omega (arith, sum_by-cons f x xs, sum_by-cons g x xs, le x, sums_le f g le xs)

pub sums_none : {X : Type 0} (f : X → ℕ) → ((x : X) → f x ≡ 0) → (xs : List X) → sum_by f xs ≡ 0
sums_none f none [] = refl
sums_none f none (x ∷ xs) = omega (arith, sum_by-cons f x xs, none x, sums_none f none xs)

pub out_has_none : (s : Slate) (gs : List BallotGroup) (R : Set) (c : ℕ) → has R c ≡ false → tally s gs R c ≡ 0
unfolding tally
out_has_none s gs R c out = sums_none (worth s R c) (λ g. ap (λ b. cond b g.count 0) (nobody_out R g.ranking c out)) gs

worth_le : (s : Slate) (R : Set) (c : ℕ) (g : BallotGroup) → worth s R c g ≤ g.count
worth_le s R c g = part (belongs R g.ranking c)
  where
    part : (b : Bool) → cond b g.count 0 ≤ g.count
    part true = omega arith
    part false = omega arith

pub at_most_all : (s : Slate) (gs : List BallotGroup) (R : Set) (c : ℕ) → tally s gs R c ≤ ballots gs
unfolding tally
at_most_all s gs R c = sums_le (worth s R c) (λ g. g.count) (worth_le s R c) gs

-- groups that fit have at most as many groups as ballots
pub groups_le : (s : Slate) (gs : List BallotGroup) → all_fit s gs ≡ true → length gs ≤ ballots gs
groups_le s [] fit = omega arith
groups_le s (g ∷ gs) fit =
    let parts = and_parts (fits_group s g) (all_fit s gs) fit in
    let some = leb-true 1 g.count (and_parts (ranks s g.ranking) (leb 1 g.count) parts.0).1 in
    omega (arith, sum_by-cons (λ h. h.count) g gs, groups_le s gs parts.1)
