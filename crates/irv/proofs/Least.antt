-- A search for the one in a set who has the least, and of equals the lowest number.
use Rattle.std.proofs.Common.{◌≡◌, ℕ, ◌+◌, ◌<◌, ◌≤◌, Bool, true, false, cond, ◌&&◌, ◌||◌, eqb, ltb, sym, refl, ap, ◌∙◌, subst, ⊎_elim, arith}
use Rattle.std.proofs.lemmas.Bool.{both_ways, eqb-true, eqb-false, ltb-true, ltb-false, cases_order}
use Rattle.irv.specs.Sets.{Set, has}
use Rattle.irv.specs.Tables.{LeastIn, less_of}
use Rattle.irv.proofs.Bits.{zero_in_none}

-- r is the least of those in R below k, and 0 where there is none
pub record LeastBelow (R : Set) (f : ℕ → ℕ) (k r : ℕ) : Type 0 where
  pub below : r < k
  pub stands : 0 < r → has R r ≡ true
  pub least : (x : ℕ) → has R x ≡ true → x < k → (has R r ≡ true) × ((f r ≤ f x) × (x < r → f r < f x))

pub least_none : (R : Set) (f : ℕ → ℕ) → LeastBelow R f 1 0
least_none R f = record {
  below = omega arith;
  stands = λ h. absurd (omega arith);
  least = λ x is h. let e : 0 ≡ x = omega arith in absurd (both_ways (has R x) (ap (has R) (sym e) ∙ zero_in_none R) is);
}

module _ (R : Set) (f : ℕ → ℕ) (k r : ℕ) (from : 1 ≤ k) (so_far : LeastBelow R f k r) where
  keeps : ((has R k ≡ true) → (has R r ≡ true) × (f r ≤ f k)) → LeastBelow R f (k + 1) r
  keeps at = record {
    below = omega (arith, so_far.below);
    stands = so_far.stands;
    least = λ x is h. ⊎_elim (λ same. let at_x : (has R r ≡ true) × (f r ≤ f x) = subst (λ y. (has R y ≡ true) → (has R r ≡ true) × (f r ≤ f y)) (sym same) at is in (at_x.0, (at_x.1, λ less. absurd (omega (arith, so_far.below))))) (⊎_elim (λ less. so_far.least x is less) (λ more. absurd (omega arith))) (cases_order x k);
  }

  takes : has R k ≡ true → ((x : ℕ) → has R x ≡ true → x < k → f k < f x) → LeastBelow R f (k + 1) k
  takes is-k fewer = record {
    below = omega arith;
    stands = λ h. is-k;
    least = λ x is h. ⊎_elim (λ same. (is-k, (subst (λ y. f k ≤ f y) (sym same) (omega arith), λ less. absurd (omega arith)))) (⊎_elim (λ less. let m : f k < f x = fewer x is less in (is-k, (omega arith, λ _. m))) (λ more. absurd (omega arith))) (cases_order x k);
  }

  pub least_more : LeastBelow R f (k + 1) (less_of R f r k)
  least_more = by_stands (has R k) refl
    where
      none_before : r ≡ 0 → (x : ℕ) → has R x ≡ true → x < k → f k < f x
      none_before e x is h = absurd (both_ways (has R r) (ap (has R) e ∙ zero_in_none R) (so_far.least x is h).0)

      by_less : has R k ≡ true → (r ≡ 0 → ⊥) → (b : Bool) → ltb (f k) (f r) ≡ b → LeastBelow R f (k + 1) (cond b k r)
      by_less is some true e = takes is (λ x is_x h. omega (arith, ltb-true (f k) (f r) e, (so_far.least x is_x h).1.0))
      by_less is some false e = keeps (λ _. (so_far.stands (omega (arith, some)), ltb-false (f k) (f r) e))

      by_zero : has R k ≡ true → (b : Bool) → eqb r 0 ≡ b → LeastBelow R f (k + 1) (cond (b || ltb (f k) (f r)) k r)
      by_zero is true e = takes is (none_before (eqb-true r 0 e))
      by_zero is false e = by_less is (eqb-false r 0 e) (ltb (f k) (f r)) refl

      by_stands : (b : Bool) → has R k ≡ b → LeastBelow R f (k + 1) (cond (b && (eqb r 0 || ltb (f k) (f r))) k r)
      by_stands true is = by_zero is (eqb r 0) refl
      by_stands false is = keeps (λ is-in. absurd (both_ways (has R k) is is-in))

pub least_of_16 : (R : Set) (f : ℕ → ℕ) (k r : ℕ) → 17 ≤ k → LeastBelow R f k r → LeastIn R f r
least_of_16 R f k r end found x is few = found.least x is (omega arith)
