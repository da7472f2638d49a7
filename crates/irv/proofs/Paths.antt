-- The steps of a count lead from one standing set to another: how many are left after them, and the order that they make.
use Rattle.std.proofs.Common.{◌≡◌, ℕ, ◌+◌, ◌<◌, ◌≤◌, Bool, true, false, cond, ◌&&◌, ◌||◌, eqb, ltb, leb, List, [], ◌∷◌, ◌++◌, map, length, filter, sym, refl, ap, ◌∙◌, subst, ⊎_elim, arith}
use Rattle.std.proofs.lemmas.List.{length-append, length-map}
use Rattle.std.proofs.lemmas.Bool.{both_ways, eqb-true, eq-eqb, lt-ltb, cases_lt, leb-true, and_parts, and_from, and_right, or_cases, or_left, or_right}
use Rattle.irv.specs.Sets.{Set, has, with, set_of}
use Rattle.irv.specs.Ballots.{Slate, member, mem, ranks, BallotGroup}
use Rattle.irv.specs.Orders.{Order, EachStep, Fewest, LowestOfTied, CountOf}
use Rattle.irv.specs.Tables.{StepFrom}
use Rattle.irv.proofs.Bits.{zero_in_none, one_more, listed, same_members}
use Rattle.irv.proofs.Lists.{first_member, first_once, rest_ranks, ranks_from, down, mem_down, ranks_down, every_member}

-- those of a list that pass a test
mem_kept : (p : ℕ → Bool) (cs : List ℕ) (d : ℕ) → mem d (filter p cs) ≡ (p d && mem d cs)
mem_kept p [] d = sym (and_right (p d) false refl)
mem_kept p (c ∷ cs) d = by (mem_kept p cs d) (p c) refl (eqb c d) refl
  where
    by : mem d (filter p cs) ≡ (p d && mem d cs) → (b : Bool) → p c ≡ b → (q : Bool) → eqb c d ≡ q → mem d (cond b (c ∷ filter p cs) (filter p cs)) ≡ (p d && (q || mem d cs))
    by later true t true e = or_left (eqb c d) _ e ∙ sym (and_from (p d) true (ap p (sym (eqb-true c d e)) ∙ t) refl)
    by later true t false e = ap (λ b. b || mem d (filter p cs)) e ∙ later
    by later false t true e = later ∙ none (p d) (mem d cs) (ap p (sym (eqb-true c d e)) ∙ t)
      where
        none : (x m : Bool) → x ≡ false → (x && m) ≡ (x && true)
        none true m h = absurd (both_ways true h refl)
        none false m h = refl
    by later false t false e = later

ranks_kept : (s : Slate) (p : ℕ → Bool) (cs : List ℕ) → ranks s cs ≡ true → ranks s (filter p cs) ≡ true
ranks_kept s p [] h = refl
ranks_kept s p (c ∷ cs) h = by (ranks_kept s p cs (rest_ranks s c cs h)) (p c)
  where
    by : ranks s (filter p cs) ≡ true → (b : Bool) → ranks s (cond b (c ∷ filter p cs) (filter p cs)) ≡ true
    by later true = ranks_from s c (filter p cs) (first_member s c cs h) (mem_kept p cs c ∙ and_right (p c) (mem c cs) (first_once s c cs h)) later
    by later false = later

-- who is in a set has a number from 1 on
member_from_one : (R : Set) (x : ℕ) → has R x ≡ true → 1 ≤ x
member_from_one R x is = ⊎_elim (λ h. let e : 0 ≡ x = omega arith in absurd (both_ways (has R x) (ap (has R) (sym e) ∙ zero_in_none R) is)) (λ h. h) (cases_lt x 1)

-- a step that goes first
step_first : (P : Set → ℕ → Type 0) (c : ℕ) (o : List ℕ) → P (set_of (c ∷ o)) c → EachStep P o → EachStep P (c ∷ o)
step_first P c [] is later = tt
step_first P c (d ∷ e) is later = (is, later)

-- who is left is in the set before
still_in : (c : ℕ) (Q R : Set) → with c Q ≡ R → (d : ℕ) → has Q d ≡ true → has R d ≡ true
still_in c Q R back d is = ap (λ S. has S d) (sym back) ∙ one_more c d Q ∙ or_right (ltb 0 c && eqb c d) (has Q d) is

-- out and table say of a step who goes out and what its table is
module _ {X : Type 0} (out : X → ℕ) (table : X → List ℕ) (s : Slate) (gs : List BallotGroup) where
  abbrev pub Leads : Set → List X → Set → Type 0
  Leads R [] Q = R ≡ Q
  Leads R (x ∷ xs) Q = (P : Set) × (StepFrom s gs R (out x) (table x) P × Leads P xs Q)

  pub leads_push : (R : Set) (xs : List X) (Q : Set) (x : X) (P : Set) → Leads R xs Q → StepFrom s gs Q (out x) (table x) P → Leads R (xs ++ (x ∷ [])) P
  leads_push R [] Q x P so_far step = (P, (subst (λ S. StepFrom s gs S (out x) (table x) P) (sym so_far) step, refl))
  leads_push R (y ∷ xs) Q x P so_far step = (so_far.0, (so_far.1.0, leads_push so_far.0 xs Q x P so_far.1.1 step))

  leads_inside : (R : Set) (xs : List X) (Q : Set) → Leads R xs Q → (d : ℕ) → has Q d ≡ true → has R d ≡ true
  leads_inside R [] Q path d is = ap (λ S. has S d) path ∙ is
  leads_inside R (x ∷ xs) Q path d is = still_in (out x) path.0 R path.1.0.back d (leads_inside path.0 xs Q path.1.1 d is)

  -- those who went out, and then those who are left, are those who stood
  pub path_set : (R : Set) (xs : List X) (Q : Set) (cs : List ℕ) → Leads R xs Q → set_of cs ≡ Q → set_of (map out xs ++ cs) ≡ R
  path_set R [] Q cs path e = e ∙ sym path
  path_set R (x ∷ xs) Q cs path e = ap (with (out x)) (path_set path.0 xs Q cs path.1.1 e) ∙ path.1.0.back

  path_ranks : (R : Set) (xs : List X) (Q : Set) (cs : List ℕ) → Leads R xs Q → set_of cs ≡ Q → ((d : ℕ) → has R d ≡ true → member s d ≡ true) → ranks s cs ≡ true → ranks s (map out xs ++ cs) ≡ true
  path_ranks R [] Q cs path e within h = h
  path_ranks R (x ∷ xs) Q cs path e within h =
      let c : ℕ = out x in
      let P : Set = path.0 in
      let o : List ℕ = map out xs ++ cs in
      let step : StepFrom s gs R (out x) (table x) P = path.1.0 in
      let positive : ltb 0 c ≡ true = lt-ltb 0 c (member_from_one R c step.stood) in
      let new : mem c o ≡ false = ap (λ b. b && mem c o) (sym positive) ∙ sym (listed o c) ∙ ap (λ S. has S c) (path_set P xs Q cs path.1.1 e) ∙ step.gone in
      ranks_from s c o (within c step.stood) new (path_ranks P xs Q cs path.1.1 e (λ d is. within d (still_in c P R step.back d is)) h)

  -- what holds of each step holds of each step of the order
  pub path_steps : (H : Set → ℕ → Type 0) → ((R : Set) (x : X) (Q : Set) → StepFrom s gs R (out x) (table x) Q → H R (out x)) → (R : Set) (xs : List X) (Q : Set) (w : ℕ) → Leads R xs Q → set_of (w ∷ []) ≡ Q → EachStep H (map out xs ++ (w ∷ []))
  path_steps H told R [] Q w path e = tt
  path_steps H told R (x ∷ xs) Q w path e =
      step_first H (out x) (map out xs ++ (w ∷ [])) (subst (λ S. H S (out x)) (sym (path_set R (x ∷ xs) Q (w ∷ []) path e)) (told R x path.0 path.1.0))
      (path_steps H told path.0 xs Q w path.1.1 e)

  -- a path from everybody
  module _ (R : Set) (all : (c : ℕ) → has R c ≡ member s c) (xs : List X) (Q : Set) (path : Leads R xs Q) where
    within : (d : ℕ) → has R d ≡ true → member s d ≡ true
    within d is = sym (all d) ∙ is

    order_from : (cs : List ℕ) → ranks s cs ≡ true → set_of cs ≡ Q → Order s (map out xs ++ cs)
    order_from cs h e = record {
      ranking = path_ranks R xs Q cs path e within h;
      whole = λ c is. (and_parts (ltb 0 c) (mem c (map out xs ++ cs)) (sym (listed (map out xs ++ cs) c) ∙ ap (λ S. has S c) (path_set R xs Q cs path e) ∙ all c ∙ is)).1;
    }

    -- those who are left, as a list
    left : List ℕ
    left = filter (has Q) (down s.candidates)

    left_ranks : ranks s left ≡ true
    unfolding left
    left_ranks = ranks_kept s (has Q) (down s.candidates) (ranks_down s.candidates s.candidates (omega arith))

    left_set : set_of left ≡ Q
    unfolding left
    left_set = same_members (set_of left) Q (λ c. listed left c ∙ ap (λ b. ltb 0 c && b) (mem_kept (has Q) (down s.candidates) c ∙ ap (λ b. has Q c && b) (mem_down s.candidates c)) ∙ by c (has Q c) refl)
      where
        by : (c : ℕ) (b : Bool) → has Q c ≡ b → (ltb 0 c && (b && member s c)) ≡ b
        by c true is = and_from (ltb 0 c) (member s c) (lt-ltb 0 c (member_from_one Q c is)) (within c (leads_inside R xs Q path c is))
        by c false is = and_right (ltb 0 c) false refl

    left_many : length xs + length left ≡ s.candidates
    left_many = omega (arith, every_member s (map out xs ++ left) (order_from left left_ranks left_set), length-append (map out xs) left, length-map xs out)

    -- while fewer went out than stand, somebody is left
    pub some_left : length xs < s.candidates → (d : ℕ) × (has Q d ≡ true)
    some_left few = by left left_ranks left_set left_many
      where
        by : (cs : List ℕ) → ranks s cs ≡ true → set_of cs ≡ Q → length xs + length cs ≡ s.candidates → (d : ℕ) × (has Q d ≡ true)
        by [] h e many = absurd (omega arith)
        by (d ∷ cs) h e many =
            (d, ap (λ S. has S d) (sym e) ∙ listed (d ∷ cs) d ∙ and_from (ltb 0 d) (eqb d d || mem d cs) (and_parts (leb 1 d) _ (first_member s d cs h)).0 (or_left (eqb d d) (mem d cs) (eq-eqb d d refl)))

    pub left_low : s.candidates ≤ 16 → (d : ℕ) → has Q d ≡ true → d ≤ 16
    left_low few d is = omega (arith, leb-true d s.candidates (and_parts (leb 1 d) _ (within d (leads_inside R xs Q path d is))).1)

    -- where all but one went out, that one is the winner
    module _ (w : ℕ) (stands : has Q w ≡ true) (last : length xs + 1 ≡ s.candidates) where
      pub winner_set : set_of (w ∷ []) ≡ Q
      winner_set = by left left_set left_many
        where
          by : (cs : List ℕ) → set_of cs ≡ Q → length xs + length cs ≡ s.candidates → set_of (w ∷ []) ≡ Q
          by [] e many = absurd (omega arith)
          by (v ∷ []) e many =
              let in' : (ltb 0 w && (eqb v w || false)) ≡ true = sym (listed (v ∷ []) w) ∙ ap (λ S. has S w) e ∙ stands in
              let same : v ≡ w = ⊎_elim (eqb-true v w) (λ h. absurd (both_ways false refl h)) (or_cases (eqb v w) false (and_parts (ltb 0 w) _ in').1) in
              ap (λ c. set_of (c ∷ [])) (sym same) ∙ e
          by (v ∷ u ∷ cs) e many = absurd (omega arith)

      pub count_of : CountOf s gs (map out xs ++ (w ∷ []))
      count_of = record {
        order = order_from (w ∷ []) (ranks_from s w [] (within w (leads_inside R xs Q path w stands)) refl refl) winner_set;
        steps = path_steps (Fewest s gs) (λ R x Q step. step.fewest) R xs Q w path winner_set;
      }

      pub lowest_of_tied : EachStep (LowestOfTied s gs) (map out xs ++ (w ∷ []))
      lowest_of_tied = path_steps (LowestOfTied s gs) (λ R x Q step. step.lowest) R xs Q w path winner_set
