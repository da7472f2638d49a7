-- The ballots as a rule: what a step is, which steps they rule out, and that they contradict all orders but their counts.
use Rattle.std.proofs.Common.{◌≡◌, ℕ, zero, suc, ◌<◌, ◌≤◌, Bool, true, false, not, ◌&&◌, ◌||◌, eqb, ltb, leb, ◌⊎◌, List, [], ◌∷◌, sym, refl, ap, ◌∙◌, subst, inl, inr, ⊎_elim, arith}
use lib.Bits.{bit_or}
use Rattle.std.proofs.lemmas.Bool.{cases_Bool, eqb-true, eq-eqb, ne_eqb, eqb-false, ltb-true, ltb-false, lt-ltb, leb-true, and_parts, and_from, and_left, and_right, or_cases, or_left, or_right, both_ways, not_from_false, not-true}
use Rattle.std.proofs.lemmas.Bool.Decides.{nat_tests}
use Rattle.irv.specs.Sets.{Set, empty, has, with, within, set_of, first_candidates}
use Rattle.irv.specs.Ballots.{Slate, member, mem, ranks, BallotGroup, tally}
use Rattle.irv.specs.Orders.{Order, EachStep, Fewest, CountOf}
use Rattle.irv.specs.Endings.{OnlySteps, IsStep, Stands, elected}
use Rattle.irv.specs.Tables.{shown, Shows, LeastIn}
use Rattle.irv.specs.Recounts.{is_step, some_fewer, ballots_ruling, RecountLaws}
use Rattle.irv.proofs.Bits.{zero_in_none, none_in_empty, one_more, same_members, listed, either_member}
use Rattle.irv.proofs.Lists.{first_member, first_once, rest_ranks, all_members, in_set}

-- the set of one candidate
pub alone : (c d : ℕ) → has (with c empty) d ≡ (ltb 0 c && eqb c d)
alone c d = one_more c d empty ∙ ap (λ b. (ltb 0 c && eqb c d) || b) (none_in_empty d) ∙ or_false (ltb 0 c && eqb c d)
  where
    or_false : (b : Bool) → (b || false) ≡ b
    or_false true = refl
    or_false false = refl

pub in_first : (n c : ℕ) → has (first_candidates n) c ≡ (leb 1 c && leb c n)
in_first zero c = none_in_empty c ∙ grind (arith, nat_tests)
in_first (suc n) c = one_more (suc n) c (first_candidates n) ∙ ap (λ b. (ltb 0 (suc n) && eqb (suc n) c) || b) (in_first n c) ∙ grind (arith, nat_tests)

-- within, by members
pub within_members : (R S : Set) → within R S ≡ true → (c : ℕ) → has R c ≡ true → has S c ≡ true
unfolding within
within_members R S h c in' = sym (ap (λ T. has T c) (eqb-true (bit_or R S) S h)) ∙ either_member R S c ∙ or_left (has R c) (has S c) in'

pub members_within : (R S : Set) → ((c : ℕ) → has R c ≡ true → has S c ≡ true) → within R S ≡ true
unfolding within
members_within R S sub = eq-eqb (bit_or R S) S (same_members (bit_or R S) S (λ c. either_member R S c ∙ join (has R c) (has S c) (sub c)))
  where
    join : (a b : Bool) → (a ≡ true → b ≡ true) → (a || b) ≡ b
    join true b h = sym (h refl)
    join false b h = refl

-- among the candidates 1 to n some other than c is in R, or none is
find_other : (R : Set) (c n : ℕ) → ((d : ℕ) × (has R d ≡ true) × (d ≡ c → ⊥)) ⊎ ((d : ℕ) → d ≤ n → has R d ≡ true → d ≡ c)
find_other R c zero = inr (λ d le in'. absurd (both_ways (has R d) (ap (has R) (omega arith) ∙ zero_in_none R) in'))
find_other R c (suc n) = ⊎_elim inl (λ none. by_last none (has R (suc n)) refl (eqb (suc n) c) refl) (find_other R c n)
  where
    by_last : ((d : ℕ) → d ≤ n → has R d ≡ true → d ≡ c) → (b : Bool) → has R (suc n) ≡ b → (e : Bool) → eqb (suc n) c ≡ e → ((d : ℕ) × (has R d ≡ true) × (d ≡ c → ⊥)) ⊎ ((d : ℕ) → d ≤ suc n → has R d ≡ true → d ≡ c)
    by_last none true in' false other = inl (suc n, in', eqb-false (suc n) c other)
    by_last none true in' true same = inr (λ d le there. ⊎_elim (λ eq. eq ∙ eqb-true (suc n) c same) (λ less. none d (omega arith) there) (last_or_less d le))
      where
        last_or_less : (d : ℕ) → d ≤ suc n → (d ≡ suc n) ⊎ (d < suc n)
        last_or_less d le = ⊎_elim (λ e. inl (eqb-true d (suc n) e)) (λ e. inr (omega (arith, eqb-false d (suc n) e))) (cases_Bool (eqb d (suc n)))
    by_last none false out b same = inr (λ d le there. ⊎_elim (λ eq. absurd (both_ways (has R (suc n)) out (sym (ap (has R) eq) ∙ there))) (λ less. none d (omega arith) there) (last_or_less d le))
      where
        last_or_less : (d : ℕ) → d ≤ suc n → (d ≡ suc n) ⊎ (d < suc n)
        last_or_less d le = ⊎_elim (λ e. inl (eqb-true d (suc n) e)) (λ e. inr (omega (arith, eqb-false d (suc n) e))) (cases_Bool (eqb d (suc n)))

step_is : (s : Slate) (R : Set) (c : ℕ) → is_step s R c ≡ true → IsStep s R c
step_is s R c h =
    let two = and_parts (within R (first_candidates s.candidates)) (has R c && not (eqb R (with c empty))) h in
    let rest = and_parts (has R c) (not (eqb R (with c empty))) two.1 in
    let members : (d : ℕ) → has R d ≡ true → member s d ≡ true = λ d there. sym (in_first s.candidates d) ∙ within_members R (first_candidates s.candidates) two.0 d there in
    record {
      stands = rest.0;
      other = ⊎_elim (λ found. found) (λ none. absurd (eqb-false R (with c empty) (not-true (eqb R (with c empty)) rest.1) (same_members R (with c empty) (only members none rest.0)))) (find_other R c s.candidates);
      members = members;
    }
  where
    only : ((d : ℕ) → has R d ≡ true → member s d ≡ true) → ((d : ℕ) → d ≤ s.candidates → has R d ≡ true → d ≡ c) → has R c ≡ true → (d : ℕ) → has R d ≡ has (with c empty) d
    only members none stands d = go (has R d) refl ∙ sym (alone c d)
      where
        some : 1 ≤ c
        some = leb-true 1 c (and_parts (leb 1 c) (leb c s.candidates) (members c stands)).0

        go : (b : Bool) → has R d ≡ b → has R d ≡ (ltb 0 c && eqb c d)
        go true there =
            let same : d ≡ c = none d (leb-true d s.candidates (and_parts (leb 1 d) (leb d s.candidates) (members d there)).1) there in
            there ∙ sym (and_from (ltb 0 c) (eqb c d) (lt-ltb 0 c some) (eq-eqb c d (sym same)))
        go false out = out ∙ sym (and_right (ltb 0 c) (eqb c d) (ne_eqb c d (λ same. both_ways (has R d) out (ap (has R) (sym same) ∙ stands))))

is_told : (s : Slate) (R : Set) (c : ℕ) → IsStep s R c → is_step s R c ≡ true
is_told s R c step =
    and_from (within R (first_candidates s.candidates)) _
    (members_within R (first_candidates s.candidates) (λ d there. in_first s.candidates d ∙ step.members d there))
    (and_from (has R c) _ step.stands (not_from_false _ (ne_eqb R (with c empty) (λ same. step.other.2 (sym (eqb-true c step.other.0 (and_parts (ltb 0 c) (eqb c step.other.0) (sym (alone c step.other.0) ∙ ap (λ T. has T step.other.0) (sym same) ∙ step.other.1)).1))))))

fewer_is : (s : Slate) (gs : List BallotGroup) (R : Set) (c n : ℕ) → some_fewer s gs R c n ≡ true → (x : ℕ) × (has R x ≡ true) × (tally s gs R x < tally s gs R c)
fewer_is s gs R c zero h = absurd (both_ways false refl h)
fewer_is s gs R c (suc n) h = by (fewer_is s gs R c n) (or_cases (has R (suc n) && ltb (tally s gs R (suc n)) (tally s gs R c)) (some_fewer s gs R c n) h)
  where
    by : (some_fewer s gs R c n ≡ true → (x : ℕ) × (has R x ≡ true) × (tally s gs R x < tally s gs R c)) → ((has R (suc n) && ltb (tally s gs R (suc n)) (tally s gs R c)) ≡ true) ⊎ (some_fewer s gs R c n ≡ true) → (x : ℕ) × (has R x ≡ true) × (tally s gs R x < tally s gs R c)
    by rest way = ⊎_elim (λ here. let p = and_parts (has R (suc n)) (ltb (tally s gs R (suc n)) (tally s gs R c)) here in (suc n, p.0, ltb-true (tally s gs R (suc n)) (tally s gs R c) p.1)) rest way

fewer_told : (s : Slate) (gs : List BallotGroup) (R : Set) (c n x : ℕ) → 1 ≤ x → x ≤ n → has R x ≡ true → tally s gs R x < tally s gs R c → some_fewer s gs R c n ≡ true
fewer_told s gs R c zero x some le in' less = absurd (omega arith)
fewer_told s gs R c (suc n) x some le in' less =
    ⊎_elim (λ e. let same : x ≡ suc n = eqb-true x (suc n) e in or_left _ (some_fewer s gs R c n) (and_from (has R (suc n)) _ (ap (has R) (sym same) ∙ in') (lt-ltb (tally s gs R (suc n)) (tally s gs R c) (subst (λ y. tally s gs R y < tally s gs R c) same less))))
    (λ e. or_right _ (some_fewer s gs R c n) (fewer_told s gs R c n x some (omega (arith, eqb-false x (suc n) e)) in' less)) (cases_Bool (eqb x (suc n)))

only_steps : (s : Slate) (gs : List BallotGroup) → OnlySteps s (ballots_ruling s gs)
only_steps s gs R c h = step_is s R c (and_parts (is_step s R c) (some_fewer s gs R c s.candidates) h).0

-- a step of an order is a step of the contest
pub order_step : (s : Slate) (c d : ℕ) (e : List ℕ) → ranks s (c ∷ d ∷ e) ≡ true → IsStep s (set_of (c ∷ d ∷ e)) c
order_step s c d e h =
    let rest = rest_ranks s c (d ∷ e) h in
    record {
      stands = in_set s c (c ∷ d ∷ e) (first_member s c (d ∷ e) h) (or_left (eqb c c) _ (eq-eqb c c refl));
      other = (d, in_set s d (c ∷ d ∷ e) (first_member s d e rest) (or_right (eqb c d) _ (or_left (eqb d d) _ (eq-eqb d d refl))), λ same. both_ways (mem c (d ∷ e)) (first_once s c (d ∷ e) h) (or_left (eqb d c) _ (eq-eqb d c same)));
      members = λ x in'. all_members s (c ∷ d ∷ e) h x (and_parts (ltb 0 x) (mem x (c ∷ d ∷ e)) (sym (listed (c ∷ d ∷ e) x) ∙ in')).1;
    }

module _ (s : Slate) (gs : List BallotGroup) where
  fewest_stands : (o : List ℕ) → EachStep (Fewest s gs) o → Stands (ballots_ruling s gs) o
  fewest_stands [] h = tt
  fewest_stands (c ∷ []) h = tt
  fewest_stands (c ∷ d ∷ e) h =
      (⊎_elim (λ ruled. let less = fewer_is s gs (set_of (c ∷ d ∷ e)) c s.candidates (and_parts (is_step s (set_of (c ∷ d ∷ e)) c) _ ruled).1 in absurd (omega (arith, h.0 less.0 less.1, less.2))) (λ not-ruled. not-ruled) (cases_Bool (ballots_ruling s gs (set_of (c ∷ d ∷ e)) c)), fewest_stands (d ∷ e) h.1)

  stands_fewest : (o : List ℕ) → ranks s o ≡ true → Stands (ballots_ruling s gs) o → EachStep (Fewest s gs) o
  stands_fewest [] r h = tt
  stands_fewest (c ∷ []) r h = tt
  stands_fewest (c ∷ d ∷ e) r h = (fewest, stands_fewest (d ∷ e) (rest_ranks s c (d ∷ e) r) h.1)
    where
      fewest : Fewest s gs (set_of (c ∷ d ∷ e)) c
      fewest x in' =
          let step = order_step s c d e r in
          let is = and_parts (leb 1 x) (leb x s.candidates) (step.members x in') in
          ⊎_elim
          (λ less. absurd (both_ways (ballots_ruling s gs (set_of (c ∷ d ∷ e)) c) h.0 (and_from (is_step s (set_of (c ∷ d ∷ e)) c) _ (is_told s (set_of (c ∷ d ∷ e)) c step) (fewer_told s gs (set_of (c ∷ d ∷ e)) c s.candidates x (leb-true 1 x is.0) (leb-true x s.candidates is.1) in' (ltb-true _ _ less)))))
          (λ not-less. ltb-false _ _ not-less) (cases_Bool (ltb (tally s gs (set_of (c ∷ d ∷ e)) x) (tally s gs (set_of (c ∷ d ∷ e)) c)))

counts_stand : (s : Slate) (gs : List BallotGroup) (o : List ℕ) → Order s o → (CountOf s gs o → Stands (ballots_ruling s gs) o) × (Stands (ballots_ruling s gs) o → CountOf s gs o)
counts_stand s gs o order = (λ count. fewest_stands s gs o count.steps, λ stands. record { order = order; steps = stands_fewest s gs o order.ranking stands })

pub recount_laws : RecountLaws
recount_laws = record {
  steps_told = λ s R c. (step_is s R c, is_told s R c);
  rules_out_steps = only_steps;
  counts_stand = counts_stand;
  none_elects = λ s gs winner. (
    λ none o count. ⊎_elim (λ same. eqb-true (elected o) winner same) (λ other. absurd (none o (record { order = count.order; another = eqb-false (elected o) winner other }) ((counts_stand s gs o count.order).0 count))) (cases_Bool (eqb (elected o) winner)),
    λ all p alternative stands. alternative.another (all p ((counts_stand s gs p alternative.order).1 stands)),
  );
}

-- the tests of a step one by one, where everybody is the set of all candidates
module _ (s : Slate) (everybody : Set) (all : (c : ℕ) → has everybody c ≡ member s c) (R : Set) (c : ℕ) where
  everybody_is : everybody ≡ first_candidates s.candidates
  everybody_is = same_members everybody (first_candidates s.candidates) (λ d. all d ∙ sym (in_first s.candidates d))

  pub step_not_within : within R everybody ≡ false → is_step s R c ≡ false
  step_not_within out = and_left (within R (first_candidates s.candidates)) _ (ap (within R) (sym everybody_is) ∙ out)

  pub step_member : within R everybody ≡ true → has R c ≡ true → member s c ≡ true
  step_member h in' = sym (all c) ∙ within_members R everybody h c in'

  pub step_by_alone : within R everybody ≡ true → has R c ≡ true → (b : Bool) → b ≡ not (eqb R (with c empty)) → b ≡ is_step s R c
  step_by_alone h in' b e = e ∙ sym (ap (λ x. x && (has R c && not (eqb R (with c empty)))) (ap (within R) (sym everybody_is) ∙ h) ∙ ap (λ x. x && not (eqb R (with c empty))) in')

-- at a step, the ballots' ruling is told by the least of a table that shows the tallies
pub ruling_by_least : (s : Slate) (gs : List BallotGroup) (R : Set) (c least : ℕ) (ts : List ℕ) → s.candidates ≤ 16 → is_step s R c ≡ true → Shows s gs R ts → LeastIn R (shown ts) least → ltb (shown ts least) (shown ts c) ≡ ballots_ruling s gs R c
ruling_by_least s gs R c least ts few step shows is-least =
    go (ltb (shown ts least) (shown ts c)) refl ∙ sym (ap (λ b. b && some_fewer s gs R c s.candidates) step)
  where
    is : IsStep s R c
    is = step_is s R c step

    low : (x : ℕ) → has R x ≡ true → (1 ≤ x) × (x ≤ s.candidates)
    low x in' = let p = and_parts (leb 1 x) (leb x s.candidates) (is.members x in') in (leb-true 1 x p.0, leb-true x s.candidates p.1)

    here : (x : ℕ) → has R x ≡ true → (has R least ≡ true) × ((shown ts least ≤ shown ts x) × (x < least → shown ts least < shown ts x))
    here x in' = is-least x in' (omega (arith, low x in'))

    go : (b : Bool) → ltb (shown ts least) (shown ts c) ≡ b → ltb (shown ts least) (shown ts c) ≡ some_fewer s gs R c s.candidates
    go true e =
        let in' = (here c is.stands).0 in
        e ∙ sym (fewer_told s gs R c s.candidates least (low least in').0 (low least in').1 in' (omega (arith, ltb-true (shown ts least) (shown ts c) e, shows least, shows c)))
    go false e =
        e ∙ ⊎_elim (λ some. let less = fewer_is s gs R c s.candidates some in absurd (omega (arith, ltb-false (shown ts least) (shown ts c) e, (here less.0 less.1).1.0, shows less.0, shows c, less.2))) (λ none. sym none) (cases_Bool (some_fewer s gs R c s.candidates))
