-- Who of two is met first in a ranking and who of a set is foreign; and the judgement of a set's members.
use Rattle.std.proofs.Common.{◌≡◌, ℕ, zero, suc, ◌+◌, ◌≤◌, Bool, true, false, cond, not, ◌&&◌, ◌||◌, ◌==◌, leb, nat_eq, List, [], ◌∷◌, Some, None, Option, Bor, sym, refl, ap, ◌∙◌, arith}
use Rattle.std.proofs.Math.Bool.{and-false}
use Rattle.std.specs.List.{find, range_with_len}
use Rattle.std.specs.Option.{option_map, option_eq}
use Rattle.std.proofs.lemmas.Bool.{and_parts, leb-true}
use Rattle.irv.specs.Sets.{Set, has}
use Rattle.irv.specs.Ballots.{Slate, member, mem}
use Rattle.irv.specs.Assertions.{nen, foreign, same, lacks_winner, lacks_loser, ahead, foreign_in, unascending_in, unless, first_of, judged, members_from, members_of}
use Rattle.irv.proofs.Assertions.{members_are, mem_members, ascending}

-- c is one of the two
abbrev pub either_of : ℕ → ℕ → ℕ → Bool
either_of w l c = c == w || c == l

-- the lowest foreign member is the first that is found
pub foreign_found : (s : Slate) (R : Set) (k n : ℕ) → option_map foreign (find (λ c. has R c && not (member s c)) (range_with_len k n)) ≡ foreign_in s (members_from R k n)
foreign_found s R k zero = refl
foreign_found s R k (suc n) = by (has R k) (member s k) refl (foreign_found s R (k + 1) n)
  where
    by : (h m : Bool) → member s k ≡ m → option_map foreign (find (λ c. has R c && not (member s c)) (range_with_len (k + 1) n)) ≡ foreign_in s (members_from R (k + 1) n) → option_map foreign (cond (h && not (member s k)) (Some k) (find (λ c. has R c && not (member s c)) (range_with_len (k + 1) n))) ≡ foreign_in s (cond h (k ∷ members_from R (k + 1) n) (members_from R (k + 1) n))
    by true true e later = rw e later
    by true false e later = rw e refl
    by false m e later = later

-- the first of the two that is found is l exactly where l is ranked and w is not ahead of it
pub behind_found : (w l : ℕ) (r : List ℕ) → option_eq nat_eq (find (either_of w l) r) (Some l) ≡ (mem l r && not (ahead w l r))
behind_found w l [] = refl
behind_found w l (c ∷ cs) = by (c == w) (c == l) refl (behind_found w l cs)
  where
    by : (a b : Bool) → (c == l) ≡ b → option_eq nat_eq (find (either_of w l) cs) (Some l) ≡ (mem l cs && not (ahead w l cs)) → option_eq nat_eq (cond (a || b) (Some c) (find (either_of w l) cs)) (Some l) ≡ ((b || mem l cs) && not (not b && (a || ahead w l cs)))
    by true true e later = e
    by true false e later = e ∙ sym (and-false (mem l cs))
    by false true e later = e
    by false false e later = later

-- `==` of what `find` answers over references, by what these point to
pub same_found : (o : Option (Bor ℕ)) (l : Bor ℕ) → option_eq (λ (x : Bor ℕ) (y : Bor ℕ). nat_eq x.now y.now) o (Some l) ≡ option_eq nat_eq (option_map (λ x. x.now) o) (Some l.now)
same_found None l = refl
same_found (Some x) l = refl

-- the judgement of nen where both numbers and all members are candidates and the two differ
module _ (s : Slate) (w l : ℕ) (R : Set) (few : s.candidates ≤ 16) where
  listed_as : (c : ℕ) → member s c ≡ true → mem c (members_of R) ≡ has R c
  listed_as c is =
      let parts = and_parts (leb 1 c) (leb c s.candidates) is in
      ap (mem c) (members_are R) ∙ mem_members R 1 16 c (leb-true 1 c parts.0) (omega (arith, few, leb-true c s.candidates parts.1))

  pub nen_of_members : foreign_in s (w ∷ l ∷ []) ≡ None → foreign_in s (members_of R) ≡ None → unless (not (w == l)) (same w) ≡ None → judged s (nen w l (members_of R)) ≡ first_of (unless (has R w) (lacks_winner w) ∷ unless (has R l) (lacks_loser l) ∷ [])
  nen_of_members pair all apart = by (member s w) (member s l) refl refl pair
    where
      by : (b d : Bool) → member s w ≡ b → member s l ≡ d → cond b (cond d None (Some (foreign l))) (Some (foreign w)) ≡ None → judged s (nen w l (members_of R)) ≡ first_of (unless (has R w) (lacks_winner w) ∷ unless (has R l) (lacks_loser l) ∷ [])
      by true true is-w is-l h = rw (is-w, is-l, all, apart, ap unascending_in (members_are R) ∙ ascending R 1 16, listed_as w is-w, listed_as l is-l) refl
      by true false is-w is-l h = cc
      by false d is-w is-l h = cc
