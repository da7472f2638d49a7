-- Lent groups, place by place: their sum, their contest, and what is handed out.
use Rattle.std.proofs.Common.{◌≡◌, ℕ, zero, suc, ◌+◌, ◌<◌, true, eqb, List, [], ◌∷◌, map, length, get_or, drop, sym, ap, ◌∙◌, arith}
use Rattle.std.proofs.lemmas.List.{drop_more, drop-map}
use Rattle.std.proofs.lemmas.Bool.{and_parts, eqb-true}
use Rattle.ballot.specs.Values.{group_value, all_of_contest}
use Rattle.ballot.specs.declared.group.Group.{Group}

-- the group at a place was made for the contest
pub one_of_contest : (n : ℕ) (gs : List Group) (i : ℕ) (d : Group) → i < length gs → all_of_contest n gs ≡ true → (get_or gs i d).ranking.candidates ≡ n
one_of_contest n [] i d within h = absurd (omega arith)
one_of_contest n (g ∷ gs) zero d within h = eqb-true g.ranking.candidates n (and_parts (eqb g.ranking.candidates n) (all_of_contest n gs) h).0
one_of_contest n (g ∷ gs) (suc i) d within h = one_of_contest n gs i d (omega arith) (and_parts (eqb g.ranking.candidates n) (all_of_contest n gs) h).1

-- the group at a place, as the source's list has it
pub handed_out : (gs : List Group) (i : ℕ) (g : Group) → i < length gs → g ≡ get_or gs i g → drop i (map group_value gs) ≡ group_value g ∷ drop (i + 1) (map group_value gs)
handed_out gs i g within is =
    drop-map group_value i gs ∙ ap (map group_value) (drop_more gs i g within) ∙ ap (λ h. group_value h ∷ map group_value (drop (i + 1) gs)) (sym is) ∙ ap (λ l. group_value g ∷ l) (sym (drop-map group_value (i + 1) gs))
