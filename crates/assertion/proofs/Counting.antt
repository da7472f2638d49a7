-- The numbers that a range with its end hands out.
use Rattle.std.proofs.Common.{◌≡◌, ℕ, ◌+◌, ◌-◌, Bool, true, false, List, ◌∷◌, length, Some, sym, refl, ap, ◌∙◌, subst, add-one, arith}
use Rattle.std.specs.List.{range_with_len}
use Rattle.std.specs.Range.{range_inclusive_start, range_inclusive_end, range_inclusive_exhausted, range_inclusive_len, range_inclusive_left}
use Rattle.std.proofs.lemmas.Iterator.{YieldsList}
use Rattle.std.proofs.lemmas.Iterator.Consumers.{YieldsList-from_shown}
use Rattle.std.proofs.iter.runs.Sources.{nat_range_inclusive_steps}
use Rattle.std.specs.declared.ops.RangeInclusive.{RangeInclusive}

abbrev left : RangeInclusive ℕ → ℕ
left s = range_inclusive_left (λ x y. y - x) s

abbrev shown : RangeInclusive ℕ → List ℕ
shown s = range_with_len (range_inclusive_start s) (left s)

-- the start comes; where it was the last, nothing is left
next_shown : (s : RangeInclusive ℕ) (x : ℕ) (t : RangeInclusive ℕ) → nat_range_inclusive_steps s (Some x) t → shown s ≡ x ∷ shown t
next_shown s x t p =
    let here : shown s ≡ x ∷ range_with_len (range_inclusive_start s + 1) (left t) =
    ap (range_with_len (range_inclusive_start s)) (sym p.1.1) ∙ ap (range_with_len (range_inclusive_start s)) (add-one (left t)) ∙ ap (λ y. y ∷ range_with_len (range_inclusive_start s + 1) (left t)) (sym p.1.0) in
    here ∙ ap (λ l. x ∷ l) (behind (range_inclusive_exhausted t) refl)
  where
    behind : (b : Bool) → range_inclusive_exhausted t ≡ b → range_with_len (range_inclusive_start s + 1) (left t) ≡ shown t
    behind true e =
        let none : left t ≡ 0 = ap (range_inclusive_len (λ x y. y - x) (range_inclusive_start t) (range_inclusive_end t)) e in
        ap (range_with_len (range_inclusive_start s + 1)) none ∙ sym (ap (range_with_len (range_inclusive_start t)) none)
    behind false e = ap (λ a. range_with_len a (left t)) (sym (p.1.2 e))

pub counts_up : {s : RangeInclusive ℕ} (a b n : ℕ) → range_inclusive_start s ≡ a → range_inclusive_end s ≡ b → range_inclusive_exhausted s ≡ false → b + 1 - a ≡ n → YieldsList nat_range_inclusive_steps (λ x. x) s (range_with_len a n)
counts_up {s} a b n start end fresh count =
    let many : left s ≡ n = ap (range_inclusive_len (λ x y. y - x) (range_inclusive_start s) (range_inclusive_end s)) fresh ∙ omega arith in
    subst (YieldsList nat_range_inclusive_steps (λ x. x) s) (ap (λ k. range_with_len k (left s)) start ∙ ap (range_with_len a) many) (YieldsList-from_shown nat_range_inclusive_steps (λ x. x) shown (λ s t p. ap (λ n. length (range_with_len (range_inclusive_start s) n)) p.1.0) next_shown s)
