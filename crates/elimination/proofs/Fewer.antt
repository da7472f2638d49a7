-- Whether some candidate has fewer ballots is told by asking of each, by a table that shows the tallies.
use Rattle.std.proofs.Common.{◌≡◌, ℕ, zero, suc, ◌+◌, Bool, true, false, ◌&&◌, ◌||◌, ltb, List, [], ◌∷◌, ◌++◌, refl, ap, ◌∙◌, arith}
use Rattle.std.specs.List.{range_with_len, list_any}
use Rattle.std.proofs.lemmas.List.Folds.{list_any-append}
use Rattle.irv.specs.Sets.{Set, has}
use Rattle.irv.specs.Ballots.{Slate, BallotGroup, tally}
use Rattle.irv.specs.Tables.{shown, Shows}
use Rattle.irv.specs.Recounts.{some_fewer}

one_more : (a n : ℕ) → range_with_len a (suc n) ≡ range_with_len a n ++ ((a + n) ∷ [])
one_more a zero = let same : a ≡ a + 0 = omega arith in ap (λ j. j ∷ []) same
one_more a (suc n) = let same : a + 1 + n ≡ a + suc n = omega arith in ap (λ l. a ∷ l) (one_more (a + 1) n ∙ ap (λ j. range_with_len (a + 1) n ++ (j ∷ [])) same)

either : (x y : Bool) → (x || (y || false)) ≡ (y || x)
either true true = refl
either true false = refl
either false true = refl
either false false = refl

pub some_fewer_any : (s : Slate) (gs : List BallotGroup) (R : Set) (c : ℕ) (ts : List ℕ) → Shows s gs R ts → (n : ℕ) → list_any (λ x. has R x && ltb (shown ts x) (shown ts c)) (range_with_len 1 n) ≡ some_fewer s gs R c n
some_fewer_any s gs R c ts shows zero = refl
some_fewer_any s gs R c ts shows (suc n) =
    let last : 1 + n ≡ suc n = omega arith in
    ap (list_any (λ x. has R x && ltb (shown ts x) (shown ts c))) (one_more 1 n ∙ ap (λ j. range_with_len 1 n ++ (j ∷ [])) last)
    ∙ list_any-append (λ x. has R x && ltb (shown ts x) (shown ts c)) (range_with_len 1 n) (suc n ∷ [])
    ∙ ap (λ b. b || ((has R (suc n) && ltb (shown ts (suc n)) (shown ts c)) || false)) (some_fewer_any s gs R c ts shows n)
    ∙ ap (λ m. some_fewer s gs R c n || ((has R (suc n) && ltb m (shown ts c)) || false)) (shows (suc n))
    ∙ ap (λ m. some_fewer s gs R c n || ((has R (suc n) && ltb (tally s gs R (suc n)) m) || false)) (shows c)
    ∙ either (some_fewer s gs R c n) (has R (suc n) && ltb (tally s gs R (suc n)) (tally s gs R c))
