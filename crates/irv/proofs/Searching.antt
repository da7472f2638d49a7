-- The walk, taken up to the first survivor, has found what a search finds, and its endings are those that it tries.
use Rattle.std.proofs.Common.{◌≡◌, ℕ, suc, ◌≤◌, true, false, not, ◌||◌, eqb, ltb, List, [], ◌∷◌, length, Some, None, Option, sym, refl, ap, ◌∙◌, ⊎_elim, arith}
use Rattle.std.proofs.lemmas.Bool.{and_parts, and_from, both_ways, cases_Bool, eqb-true, eq-eqb, not-true, not_from_false, or_cases}
use Rattle.irv.specs.Sets.{has, set_of}
use Rattle.irv.specs.Ballots.{Slate, Proper, mem, ranks}
use Rattle.irv.specs.Orders.{Order}
use Rattle.irv.specs.Endings.{Ruling, OnlySteps, Stands, Alternative, FirstStanding, IsOpen, Tried, TriedEndings, EndingsTried, NotAfter, SearchLaws}
use Rattle.irv.specs.Walks.{is_survivor}
use Rattle.irv.proofs.Bits.{listed}
use Rattle.irv.proofs.Lists.{ranks_from, ranked_at_most_once, every_member}
use Rattle.irv.proofs.Comparing.{Among, all_among, among_from_has, has_from_among, before_or_after, rising_from_ascending, ascending_from_rising, same_rising}
use Rattle.irv.proofs.Counted.{pick, up_to, all_up_to, up_to_rises, picked_final, none_final, picked_first, up_to_not_after, not_after_up_to}
use Rattle.irv.proofs.Walk.{all_endings, all_rise, every_tried, all_are_tried, tried_are_all}

-- a rule rules out nothing in a set of one
free_alone : (s : Slate) (r : Ruling) → OnlySteps s r → (c : ℕ) → r (set_of (c ∷ [])) c ≡ false
free_alone s r only c = ⊎_elim (λ out. absurd (by (only (set_of (c ∷ [])) c out).other)) (λ free. free) (cases_Bool (r (set_of (c ∷ [])) c))
  where
    by : ((d : ℕ) × (has (set_of (c ∷ [])) d ≡ true) × (d ≡ c → ⊥)) → ⊥
    by o =
        let in' : (eqb c o.0 || false) ≡ true = (and_parts (ltb 0 o.0) (eqb c o.0 || false) (sym (listed (c ∷ []) o.0) ∙ o.1)).1 in
        ⊎_elim (λ same. o.2 (sym (eqb-true c o.0 same))) (λ none. both_ways false refl none) (or_cases (eqb c o.0) false in')

stands_if_open : (r : Ruling) (o : List ℕ) → IsOpen r o → Stands r o
stands_if_open r [] is = tt
stands_if_open r (c ∷ []) is = tt
stands_if_open r (c ∷ d ∷ e) is = (is.0, stands_if_open r (d ∷ e) is.1)

open_if_stands : (s : Slate) (r : Ruling) → OnlySteps s r → (o : List ℕ) → Stands r o → IsOpen r o
open_if_stands s r only [] is = tt
open_if_stands s r only (c ∷ []) is = (free_alone s r only c, tt)
open_if_stands s r only (c ∷ d ∷ e) is = (is.0, open_if_stands s r only (d ∷ e) is.1)

whole_if_full : (s : Slate) (o : List ℕ) → ranks s o ≡ true → length o ≡ s.candidates → Order s o
whole_if_full s o h full = record { ranking = h; whole = λ c in'. ⊎_elim (λ is. is) (λ out. let many : suc (length o) ≤ s.candidates = ranked_at_most_once s (c ∷ o) (ranks_from s c o in' out h) in absurd (omega arith)) (cases_Bool (mem c o)) }

module _ (s : Slate) (r : Ruling) (w : ℕ) where
  full_order : (o : List ℕ) → Tried s r w o → is_survivor r s.candidates o ≡ true → Alternative s w o × Stands r o
  full_order [] is final = absurd is
  full_order (c ∷ e) is final =
      let parts = and_parts (eqb (length (c ∷ e)) s.candidates) (not (r (set_of (c ∷ e)) c)) final in (
        record { order = whole_if_full s (c ∷ e) is.0 (eqb-true (length (c ∷ e)) s.candidates parts.0); another = is.1.0 },
        stands_if_open r (c ∷ e) (not-true (r (set_of (c ∷ e)) c) parts.1, is.1.1),
      )

  order_full : Proper s → OnlySteps s r → (o : List ℕ) → Alternative s w o → Stands r o → Tried s r w o × (is_survivor r s.candidates o ≡ true)
  order_full proper only [] is stands = let none = every_member s [] is.order in absurd (omega (arith, none, proper))
  order_full proper only (c ∷ e) is stands =
      let open' = open_if_stands s r only (c ∷ e) stands in
      ((is.order.ranking, (is.another, open'.1)), and_from (eqb (length (c ∷ e)) s.candidates) (not (r (set_of (c ∷ e)) c)) (eq-eqb (length (c ∷ e)) s.candidates (every_member s (c ∷ e) is.order)) (not_from_false (r (set_of (c ∷ e)) c) open'.0))

  -- what the walk finds, and what it tries for that
  abbrev pub first_found : Option (List ℕ)
  first_found = pick (is_survivor r s.candidates) (all_endings s r w)

  abbrev pub endings_tried : List (List ℕ)
  endings_tried = up_to (is_survivor r s.candidates) (all_endings s r w)

  pub finds_first : Proper s → OnlySteps s r → FirstStanding s r w first_found
  finds_first proper only = by first_found refl
    where
      by : (found : Option (List ℕ)) → first_found ≡ found → FirstStanding s r w found
      by None is = λ p alternative stands.
          let full = order_full proper only p alternative stands in
          both_ways (is_survivor r s.candidates p) (all_among (λ e. is_survivor r s.candidates e ≡ false) (all_endings s r w) p (none_final (is_survivor r s.candidates) (all_endings s r w) is) (tried_are_all s r w p full.0)) full.1
      by (Some o) is =
          let picked = picked_final (is_survivor r s.candidates) (all_endings s r w) o is in
          let good = full_order o (all_are_tried s r w o picked.0) picked.1 in
          record {
            alternative = good.0;
            stands = good.1;
            first = λ p alternative stands before.
                let full = order_full proper only p alternative stands in
                picked_first (is_survivor r s.candidates) (all_endings s r w) (all_rise s r w) o p is (tried_are_all s r w p full.0) full.1 before;
          }

  pub tries_these : TriedEndings s r w first_found endings_tried
  tries_these = record {
    ascending = ascending_from_rising endings_tried (up_to_rises (is_survivor r s.candidates) (all_endings s r w) (all_rise s r w));
    each_tried = λ e has'.
        let in' = among_from_has endings_tried e has' in (
          all_among (Tried s r w) endings_tried e (all_up_to (is_survivor r s.candidates) (Tried s r w) (all_endings s r w) (every_tried s r w)) in',
          all_among (NotAfter first_found) endings_tried e (up_to_not_after (is_survivor r s.candidates) (all_endings s r w) (all_rise s r w)) in',
        );
    all_tried = λ e is not_after. has_from_among endings_tried e (not_after_up_to (is_survivor r s.candidates) (all_endings s r w) (all_rise s r w) e (tried_are_all s r w e is) not_after);
  }

pub one_survivor : (s : Slate) (r : Ruling) (w : ℕ) (found other : Option (List ℕ)) → FirstStanding s r w found → FirstStanding s r w other → found ≡ other
one_survivor s r w None None h k = refl
one_survivor s r w None (Some p) h k = absurd (h p k.alternative k.stands)
one_survivor s r w (Some o) None h k = absurd (k o h.alternative h.stands)
one_survivor s r w (Some o) (Some p) h k =
    ⊎_elim (λ same. ap (λ x. Some x) same) (⊎_elim (λ before. absurd (k.first o h.alternative h.stands before)) (λ after. absurd (h.first p k.alternative k.stands after))) (before_or_after o p)

same_endings : (s : Slate) (r : Ruling) (w : ℕ) (found : Option (List ℕ)) (es fs : List (List ℕ)) → TriedEndings s r w found es → TriedEndings s r w found fs → es ≡ fs
same_endings s r w found es fs h k =
    same_rising es fs (rising_from_ascending es h.ascending) (rising_from_ascending fs k.ascending) (into es fs h k) (into fs es k h)
  where
    into : (xs ys : List (List ℕ)) → TriedEndings s r w found xs → TriedEndings s r w found ys → (e : List ℕ) → Among e xs → Among e ys
    into xs ys p q e in' = let is = p.each_tried e (has_from_among xs e in') in among_from_has ys e (q.all_tried e is.0 is.1)

pub one_count : (s : Slate) (r : Ruling) (w : ℕ) (found : Option (List ℕ)) (k l : ℕ) → EndingsTried s r w found k → EndingsTried s r w found l → k ≡ l
one_count s r w found k l h g = h.count ∙ ap length (same_endings s r w found h.endings g.endings h.listed g.listed) ∙ sym g.count

pub search_laws : SearchLaws
search_laws = record {
  one_survivor = one_survivor;
  one_count = one_count;
  open_as_standing = λ s r o only is. (stands_if_open r o, open_if_stands s r only o);
  none_as_contradicted = λ s r w. (λ h. h, λ h. h);
}
