-- Lists of different candidates: how long they can be, and which sets their parts make.
use Rattle.std.proofs.Common.{◌≡◌, ℕ, zero, suc, ◌<◌, ◌≤◌, Bool, true, false, cond, not, ◌&&◌, ◌||◌, eqb, ltb, leb, ◌⊎◌, List, [], ◌∷◌, ◌++◌, length, sym, refl, ap, ◌∙◌, subst, ⊎_elim, arith}
use Rattle.std.proofs.lemmas.Bool.{cases_Bool, eqb-true, eqb-false, eq-eqb, ne_eqb, and_parts, and_from, or_cases, or_left, or_right, or_from, or_parts, both_ways, not-true, not_from_false}
use Rattle.std.proofs.lemmas.Bool.Decides.{nat_tests}
use Rattle.irv.specs.Sets.{has, set_of}
use Rattle.irv.specs.Ballots.{Slate, slate, member, mem, ranks}
use Rattle.irv.specs.Orders.{Order, EachStep}
use Rattle.irv.specs.Laws.{WithAnother}
use Rattle.irv.proofs.Bits.{listed}

-- what `ranks` says of the first and of the rest
pub first_member : (s : Slate) (c : ℕ) (cs : List ℕ) → ranks s (c ∷ cs) ≡ true → member s c ≡ true
first_member s c cs h = (and_parts (member s c) _ h).0

pub first_once : (s : Slate) (c : ℕ) (cs : List ℕ) → ranks s (c ∷ cs) ≡ true → mem c cs ≡ false
first_once s c cs h = not-true (mem c cs) (and_parts (not (mem c cs)) (ranks s cs) (and_parts (member s c) _ h).1).0

pub rest_ranks : (s : Slate) (c : ℕ) (cs : List ℕ) → ranks s (c ∷ cs) ≡ true → ranks s cs ≡ true
rest_ranks s c cs h = (and_parts (not (mem c cs)) (ranks s cs) (and_parts (member s c) _ h).1).1

pub ranks_from : (s : Slate) (c : ℕ) (cs : List ℕ) → member s c ≡ true → mem c cs ≡ false → ranks s cs ≡ true → ranks s (c ∷ cs) ≡ true
ranks_from s c cs is once rest = and_from (member s c) _ is (and_from (not (mem c cs)) (ranks s cs) (not_from_false _ once) rest)

-- ys without x
without : ℕ → List ℕ → List ℕ
without x [] = []
without x (y ∷ ys) = cond (eqb y x) (without x ys) (y ∷ without x ys)

without_le : (x : ℕ) (ys : List ℕ) → length (without x ys) ≤ length ys
unfolding without
without_le x [] = omega arith
without_le x (y ∷ ys) = by (without_le x ys) (eqb y x)
  where
    by : length (without x ys) ≤ length ys → (b : Bool) → length (cond b (without x ys) (y ∷ without x ys)) ≤ suc (length ys)
    by rest true = omega arith
    by rest false = omega arith

without_less : (x : ℕ) (ys : List ℕ) → mem x ys ≡ true → length (without x ys) < length ys
unfolding without
without_less x [] h = absurd (both_ways false refl h)
without_less x (y ∷ ys) h = by (without_less x ys) (eqb y x) h
  where
    by : (mem x ys ≡ true → length (without x ys) < length ys) → (b : Bool) → (b || mem x ys) ≡ true → length (cond b (without x ys) (y ∷ without x ys)) < suc (length ys)
    by rest true e = omega (arith, without_le x ys)
    by rest false e = omega (arith, rest e)

mem_without : (x c : ℕ) (ys : List ℕ) → mem c ys ≡ true → eqb x c ≡ false → mem c (without x ys) ≡ true
unfolding without
mem_without x c [] h ne = h
mem_without x c (y ∷ ys) h ne = by (λ later. mem_without x c ys later ne) (eqb y x) refl h
  where
    by : (mem c ys ≡ true → mem c (without x ys) ≡ true) → (b : Bool) → eqb y x ≡ b → (eqb y c || mem c ys) ≡ true → mem c (cond b (without x ys) (y ∷ without x ys)) ≡ true
    by rest true e t = ⊎_elim (λ same. absurd (eqb-false x c ne (sym (eqb-true y x e) ∙ eqb-true y c same))) rest (or_cases (eqb y c) (mem c ys) t)
    by rest false e t = ⊎_elim (λ same. or_left (eqb y c) _ same) (λ later. or_right (eqb y c) _ (rest later)) (or_cases (eqb y c) (mem c ys) t)

-- different ones that all stand in ys are at most as many as ys has
pub at_most_as_many : (s : Slate) (xs ys : List ℕ) → ranks s xs ≡ true → ((c : ℕ) → mem c xs ≡ true → mem c ys ≡ true) → length xs ≤ length ys
at_most_as_many s [] ys h sub = omega arith
at_most_as_many s (x ∷ xs) ys h sub =
    let less : length (without x ys) < length ys = without_less x ys (sub x (or_left (eqb x x) (mem x xs) (eq-eqb x x refl))) in
    let rest : length xs ≤ length (without x ys) = at_most_as_many s xs (without x ys) (rest_ranks s x xs h) (λ c in'. mem_without x c ys (sub c (or_right (eqb x c) (mem c xs) in')) (ne_eqb x c (λ same. both_ways (mem x xs) (first_once s x xs h) (subst (λ y. mem y xs ≡ true) (sym same) in')))) in
    omega arith

-- the candidates from n down to 1
abbrev pub down : ℕ → List ℕ
down zero = []
down (suc n) = suc n ∷ down n

pub length_down : (n : ℕ) → length (down n) ≡ n
length_down zero = refl
length_down (suc n) = ap suc (length_down n)

pub mem_down : (n c : ℕ) → mem c (down n) ≡ (leb 1 c && leb c n)
mem_down zero c = grind (arith, nat_tests)
mem_down (suc n) c = ap (λ b. eqb (suc n) c || b) (mem_down n c) ∙ grind (arith, nat_tests)

pub ranks_down : (m n : ℕ) → n ≤ m → ranks (slate m) (down n) ≡ true
ranks_down m zero h = refl
ranks_down m (suc n) h =
    ranks_from (slate m) (suc n) (down n) (grind (arith, nat_tests)) (mem_down n (suc n) ∙ grind (arith, nat_tests)) (ranks_down m n (omega arith))

pub all_members : (s : Slate) (cs : List ℕ) → ranks s cs ≡ true → (c : ℕ) → mem c cs ≡ true → member s c ≡ true
all_members s [] h c in' = absurd (both_ways false refl in')
all_members s (x ∷ cs) h c in' = ⊎_elim (λ same. subst (λ y. member s y ≡ true) (eqb-true x c same) (first_member s x cs h)) (λ later. all_members s cs (rest_ranks s x cs h) c later) (or_cases (eqb x c) (mem c cs) in')

pub ranked_at_most_once : (s : Slate) (cs : List ℕ) → ranks s cs ≡ true → length cs ≤ s.candidates
ranked_at_most_once s cs h = omega (arith, length_down s.candidates, at_most_as_many s cs (down s.candidates) h (λ c in'. mem_down s.candidates c ∙ all_members s cs h c in'))

pub every_member : (s : Slate) (o : List ℕ) → Order s o → length o ≡ s.candidates
every_member s o is = omega (arith, ranked_at_most_once s o is.ranking, length_down s.candidates, at_most_as_many s (down s.candidates) o (ranks_down s.candidates s.candidates (omega arith)) (λ c in'. is.whole c (sym (mem_down s.candidates c) ∙ in')))

-- a member is in the set of a list that holds it
pub in_set : (s : Slate) (c : ℕ) (cs : List ℕ) → member s c ≡ true → mem c cs ≡ true → has (set_of cs) c ≡ true
in_set s c cs is in' = listed cs c ∙ and_from (ltb 0 c) (mem c cs) (and_parts (leb 1 c) _ is).0 in'

steps_of : (s : Slate) (o : List ℕ) → ranks s o ≡ true → EachStep WithAnother o
steps_of s [] h = tt
steps_of s (c ∷ []) h = tt
steps_of s (c ∷ d ∷ e) h =
    let rest = rest_ranks s c (d ∷ e) h in (
      (
        in_set s c (c ∷ d ∷ e) (first_member s c (d ∷ e) h) (or_left (eqb c c) _ (eq-eqb c c refl)),
        (
          d,
          in_set s d (c ∷ d ∷ e) (first_member s d e rest) (or_right (eqb c d) _ (or_left (eqb d d) _ (eq-eqb d d refl))),
          λ same. both_ways (mem c (d ∷ e)) (first_once s c (d ∷ e) h) (or_left (eqb d c) _ (eq-eqb d c same)),
        ),
      ),
      steps_of s (d ∷ e) rest,
    )

pub steps_stand : (s : Slate) (o : List ℕ) → Order s o → EachStep WithAnother o
steps_stand s o is = steps_of s o is.ranking

-- who is in a list, and in the same list with one more
pub mem_push : (c : ℕ) (xs : List ℕ) (x : ℕ) → mem c (xs ++ (x ∷ [])) ≡ (mem c xs || eqb x c)
mem_push c [] x = grind (arith, nat_tests)
mem_push c (y ∷ xs) x = ap (λ b. eqb y c || b) (mem_push c xs x) ∙ regroup (eqb y c) (mem c xs) (eqb x c)
  where
    regroup : (a b d : Bool) → (a || (b || d)) ≡ ((a || b) || d)
    regroup true b d = refl
    regroup false b d = refl

-- a ranking with one more candidate, who is a member and new
pub ranks_push : (s : Slate) (xs : List ℕ) (x : ℕ) → ranks s xs ≡ true → member s x ≡ true → mem x xs ≡ false → ranks s (xs ++ (x ∷ [])) ≡ true
ranks_push s [] x h is new = ranks_from s x [] is refl refl
ranks_push s (y ∷ xs) x h is new =
    let apart = or_parts (eqb y x) (mem x xs) new in
    ranks_from s y (xs ++ (x ∷ [])) (first_member s y xs h)
    (mem_push y xs x ∙ or_from (mem y xs) (eqb x y) (first_once s y xs h) (ne_eqb x y (λ same. eqb-false y x apart.0 (sym same))))
    (ranks_push s xs x (rest_ranks s y xs h) is apart.1)

-- each candidate of a ranking is a member, and comes in none of the places before
pub ranked_within : (s : Slate) (ok : List ℕ) (c : ℕ) (later : List ℕ) → ranks s (ok ++ (c ∷ later)) ≡ true → (member s c ≡ true) × (mem c ok ≡ false)
ranked_within s [] c later h = (first_member s c later h, refl)
ranked_within s (x ∷ ok) c later h =
    let rest = ranked_within s ok c later (rest_ranks s x (ok ++ (c ∷ later)) h) in
    (rest.0, or_from (eqb x c) (mem c ok) (ne_eqb x c (λ same. both_ways (mem x (ok ++ (c ∷ later))) (first_once s x (ok ++ (c ∷ later)) h) (found ok x same))) rest.1)
  where
    found : (ys : List ℕ) (y : ℕ) → y ≡ c → mem y (ys ++ (c ∷ later)) ≡ true
    found [] y same = or_left (eqb c y) (mem y later) (eq-eqb c y (sym same))
    found (z ∷ ys) y same = or_right (eqb z y) _ (found ys y same)

-- a list in which a foreign or repeated candidate comes is no ranking
pub not_ranked : (s : Slate) (ok : List ℕ) (c : ℕ) (later : List ℕ) → (member s c ≡ false) ⊎ (mem c ok ≡ true) → ranks s (ok ++ (c ∷ later)) ≡ false
not_ranked s ok c later fault =
    ⊎_elim (λ yes'. let told = ranked_within s ok c later yes' in absurd (⊎_elim (λ foreign. both_ways (member s c) foreign told.0) (λ again. both_ways (mem c ok) told.1 again) fault)) (λ no'. no') (cases_Bool (ranks s (ok ++ (c ∷ later))))
