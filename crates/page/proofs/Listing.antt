-- What an iterator hands out until its end, and the members of a set among the numbers from k on.
use Rattle.std.proofs.Common.{◌≡◌, ℕ, zero, suc, ◌+◌, cond, List, ◌∷◌, filter, Option, sym, refl, ap, ◌∙◌}
use Rattle.std.specs.Iterator.{Drains}
use Rattle.std.specs.List.{range_with_len}
use Rattle.std.proofs.lemmas.Iterator.{YieldsList, items_from_drains}
use Rattle.std.proofs.lemmas.List.{map-id}
use Rattle.irv.specs.Assertions.{members_from}
use Rattle.irv.specs.Sets.{Set, has}

pub drained : {S A : Type 0} {steps : S → Option A → S → Type 0} {s : S} {all : List A} (xs : List A) → Drains steps s xs → YieldsList steps (λ x. x) s all → xs ≡ all
drained xs d road = sym (map-id xs) ∙ items_from_drains xs (d.1.0, d.1.1, λ _. (d.0, d.1.2)) road

pub members_kept : (R : Set) (k n : ℕ) → filter (has R) (range_with_len k n) ≡ members_from R k n
members_kept R k zero = refl
members_kept R k (suc n) = ap (λ l. cond (has R k) (k ∷ l) l) (members_kept R (k + 1) n)
