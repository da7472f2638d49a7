-- The definitions by recursion, as what the library says of `find` and `all`.
use Rattle.std.proofs.Common.{◌≡◌, ℕ, cond, ◌&&◌, eqb, List, [], ◌∷◌, Some, refl, ap}
use Rattle.std.specs.List.{find, list_all}
use Rattle.irv.specs.Sets.{Set, has}
use Rattle.irv.specs.Ballots.{owner}
use Rattle.ballot.specs.Values.{all_of_contest}
use Rattle.ballot.specs.declared.group.Group.{Group}

pub owner_found : (R : Set) (xs : List ℕ) → find (has R) xs ≡ owner R xs
owner_found R [] = refl
owner_found R (x ∷ xs) = ap (cond (has R x) (Some x)) (owner_found R xs)

pub contest_of_all : (n : ℕ) (gs : List Group) → list_all (λ g. eqb g.ranking.candidates n) gs ≡ all_of_contest n gs
contest_of_all n [] = refl
contest_of_all n (g ∷ gs) = ap (λ b. eqb g.ranking.candidates n && b) (contest_of_all n gs)
