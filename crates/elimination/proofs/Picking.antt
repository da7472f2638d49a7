-- The first of those with the least key, picked from the members of a set in ascending order.
use Rattle.std.proofs.Common.{◌≡◌, ℕ, zero, suc, ◌+◌, ◌<◌, ◌≤◌, Bool, true, false, cond, ◌&&◌, ◌||◌, eqb, ltb, List, [], ◌∷◌, filter, Some, None, Option, sym, refl, ap, ◌∙◌, subst, arith}
use Rattle.std.specs.Borrow.{Bor}
use Rattle.std.specs.Option.{MatchOption}
use Rattle.std.specs.Fn.{Mut, CalledAt}
use Rattle.std.specs.List.{range_with_len, FoldsTo}
use Rattle.std.specs.Iterator.{KeyTurn, PicksMinByKey}
use Rattle.std.specs.Ordering.{nat_cmp, min_by_ordering}
use Rattle.std.specs.declared.cmp.Ordering.TheVariants.{Less, Equal, Greater}
use Rattle.std.proofs.lemmas.Iterator.{YieldsList}
use Rattle.std.proofs.lemmas.Bool.{both_ways, ltb-true, ltb-false, eqb-true, eqb-false}
use Rattle.std.proofs.lemmas.List.{map-id}
use Rattle.std.proofs.iter.Yields.{gives_Drains}
use Rattle.irv.specs.Sets.{Set, has}
use Rattle.irv.specs.Tables.{LeastIn}
use Rattle.irv.proofs.Least.{LeastBelow, least_none, least_more, least_of_16}
use Rattle.irv.proofs.Bits.{zero_in_none}
use Rattle.elimination.specs.Counts.{Somebody}

-- a new one is picked where its key is less
pub picks_less : {X : Type 0} (a b : ℕ) (x y : X) → min_by_ordering (nat_cmp a b) x y ≡ cond (ltb b a) y x
picks_less a b x y = by (ltb a b) refl (eqb a b) refl (ltb b a) refl
  where
    by : (p : Bool) → ltb a b ≡ p → (q : Bool) → eqb a b ≡ q → (r : Bool) → ltb b a ≡ r → min_by_ordering (cond p Less (cond q Equal Greater)) x y ≡ cond r y x
    by true less q e true more = let l = ltb-true a b less in let m = ltb-true b a more in absurd (omega arith)
    by true less q e false more = refl
    by false less true e true more = let l = eqb-true a b e in let m = ltb-true b a more in absurd (omega arith)
    by false less true e false more = refl
    by false less false e true more = refl
    by false less false e false more = let l = ltb-false a b less in let n = eqb-false a b e in let m = ltb-false b a more in absurd (n (omega arith))

module _ (R : Set) (f : ℕ → ℕ) where
  -- a candidate who does not stand is passed over
  passed : (i best : ℕ) → 1 ≤ i → has R i ≡ false → LeastBelow R f i best → LeastBelow R f (i + 1) best
  passed i best from out so_far = subst (LeastBelow R f (i + 1)) (ap (λ b. cond (b && (eqb best 0 || ltb (f i) (f best))) i best) out) (least_more R f i best from so_far)

  first : (i : ℕ) → 1 ≤ i → has R i ≡ true → LeastBelow R f i 0 → LeastBelow R f (i + 1) i
  first i from in' so_far = subst (LeastBelow R f (i + 1)) (ap (λ b. cond (b && (eqb 0 0 || ltb (f i) (f 0))) i 0) in') (least_more R f i 0 from so_far)

  later : (i best : ℕ) → 1 ≤ i → 0 < best → has R i ≡ true → LeastBelow R f i best → LeastBelow R f (i + 1) (cond (ltb (f i) (f best)) i best)
  later i best from some in' so_far = by (eqb best 0) refl
    where
      by : (b : Bool) → eqb best 0 ≡ b → LeastBelow R f (i + 1) (cond (ltb (f i) (f best)) i best)
      by true is = let none = eqb-true best 0 is in absurd (omega arith)
      by false is =
          subst (LeastBelow R f (i + 1)) (ap (λ b. cond (b && (eqb best 0 || ltb (f i) (f best))) i best) in' ∙ ap (λ b. cond (b || ltb (f i) (f best)) i best) is)
          (least_more R f i best from so_far)

  onward : (k i best : ℕ) → LeastBelow R f (i + 1 + k) best → LeastBelow R f (i + suc k) best
  onward k i best h = let same : i + 1 + k ≡ i + suc k = omega arith in subst (λ n. LeastBelow R f n best) same h

  here : (i best : ℕ) → LeastBelow R f i best → LeastBelow R f (i + 0) best
  here i best h = let same : i ≡ i + 0 = omega arith in subst (λ n. LeastBelow R f n best) same h

  -- nobody of the k candidates from i on stands
  none_kept : (k i : ℕ) → 1 ≤ i → LeastBelow R f i 0 → filter (has R) (range_with_len i k) ≡ [] → LeastBelow R f (i + k) 0
  none_kept zero i from so_far empty = here i 0 so_far
  none_kept (suc k) i from so_far empty = by (none_kept k (i + 1) (omega arith)) (has R i) refl empty
    where
      by : (LeastBelow R f (i + 1) 0 → filter (has R) (range_with_len (i + 1) k) ≡ [] → LeastBelow R f (i + 1 + k) 0) → (b : Bool) → has R i ≡ b → cond b (i ∷ filter (has R) (range_with_len (i + 1) k)) (filter (has R) (range_with_len (i + 1) k)) ≡ [] → LeastBelow R f (i + suc k) 0
      by later true in' empty = let z : ◌≡◌ {A = ℕ} 0 1 = cc in absurd (omega arith)
      by later false out empty = onward k i 0 (later (passed i 0 from out so_far) empty)

  module _ {F : Type 0} (g : Mut F (Bor ℕ × Unit {0}) ℕ) (fn : F) (pure : (x k : ℕ) (q : F) → CalledAt g fn x k q → (q ≡ fn) × (k ≡ f x)) where
    abbrev Turns : (F × ℕ) × ℕ → List ℕ → (F × ℕ) × ℕ → Type 0
    Turns = FoldsTo (KeyTurn min_by_ordering min_by_ordering g nat_cmp)

    -- the best so far and its key
    record Best (i : ℕ) (p : (F × ℕ) × ℕ) : Type 0 where
      pub callee : p.0.0 ≡ fn
      pub key : p.0.1 ≡ f p.1
      pub some : 0 < p.1
      pub so_far : LeastBelow R f i p.1

    rest : (k i : ℕ) (p q : (F × ℕ) × ℕ) → 1 ≤ i → Best i p → Turns p (filter (has R) (range_with_len i k)) q → (0 < q.1) × LeastBelow R f (i + k) q.1
    rest zero i p q from best turns = subst (λ q. (0 < q.1) × LeastBelow R f (i + 0) q.1) turns (best.some, here i p.1 best.so_far)
    rest (suc k) i p q from best turns = by (λ p' best' turns'. rest k (i + 1) p' q (omega arith) best' turns') (has R i) refl turns
      where
        by : ((p' : (F × ℕ) × ℕ) → Best (i + 1) p' → Turns p' (filter (has R) (range_with_len (i + 1) k)) q → (0 < q.1) × LeastBelow R f (i + 1 + k) q.1) → (b : Bool) → has R i ≡ b → Turns p (cond b (i ∷ filter (has R) (range_with_len (i + 1) k)) (filter (has R) (range_with_len (i + 1) k))) q → (0 < q.1) × LeastBelow R f (i + suc k) q.1
        by on false out turns =
            let end = on p (record { callee = best.callee; key = best.key; some = best.some; so_far = passed i p.1 from out best.so_far }) turns in
            (end.0, onward k i q.1 end.1)
        by on true in' turns =
            let j = turns.0 in
            let call = pure i turns.1.0 j.0.0 (subst (λ c. CalledAt g c i turns.1.0 j.0.0) best.callee turns.1.2) in
            let order : nat_cmp (f p.1) (f i) ≡ turns.1.1 = sym (ap (λ a. nat_cmp a turns.1.0) best.key ∙ ap (nat_cmp (f p.1)) call.1) ∙ turns.1.3 in
            let less : j.1 ≡ cond (ltb (f i) (f p.1)) i p.1 = turns.1.5 ∙ ap (λ o. min_by_ordering o p.1 i) (sym order) ∙ picks_less (f p.1) (f i) p.1 i in
            let key : j.0.1 ≡ f j.1 = turns.1.4 ∙ ap (λ o. min_by_ordering o p.0.1 turns.1.0) (sym order) ∙ picks_less (f p.1) (f i) p.0.1 turns.1.0 ∙ keyed (ltb (f i) (f p.1)) p.0.1 turns.1.0 p.1 best.key call.1 ∙ ap f (sym less) in
            let more : (0 < j.1) × LeastBelow R f (i + 1) j.1 = subst (λ y. (0 < y) × LeastBelow R f (i + 1) y) (sym less) (positive (ltb (f i) (f p.1)), later i p.1 from best.some in' best.so_far) in
            let end = on j (record { callee = call.0; key = key; some = more.0; so_far = more.1 }) turns.2 in
            (end.0, onward k i q.1 end.1)
          where
            keyed : (b : Bool) (a c y : ℕ) → a ≡ f y → c ≡ f i → cond b c a ≡ f (cond b i y)
            keyed true a c y e d = d
            keyed false a c y e d = e

            positive : (b : Bool) → 0 < cond b i p.1
            positive true = omega arith
            positive false = best.some

    -- from the first who stands on
    from_first : (k i x : ℕ) (xs : List ℕ) (key : ℕ) (f' : F) (q : (F × ℕ) × ℕ) → 1 ≤ i → LeastBelow R f i 0 → x ∷ xs ≡ filter (has R) (range_with_len i k) → CalledAt g fn x key f' → Turns ((f', key), x) xs q → (0 < q.1) × LeastBelow R f (i + k) q.1
    from_first zero i x xs key f' q from so_far is called turns = let z : ◌≡◌ {A = ℕ} 0 1 = cc in absurd (omega arith)
    from_first (suc k) i x xs key f' q from so_far is called turns = by (λ so_far' is'. from_first k (i + 1) x xs key f' q (omega arith) so_far' is' called turns) (has R i) refl is
      where
        by : (LeastBelow R f (i + 1) 0 → x ∷ xs ≡ filter (has R) (range_with_len (i + 1) k) → (0 < q.1) × LeastBelow R f (i + 1 + k) q.1) → (b : Bool) → has R i ≡ b → x ∷ xs ≡ cond b (i ∷ filter (has R) (range_with_len (i + 1) k)) (filter (has R) (range_with_len (i + 1) k)) → (0 < q.1) × LeastBelow R f (i + suc k) q.1
        by on false out is =
            let end = on (passed i 0 from out so_far) is in
            (end.0, onward k i q.1 end.1)
        by on true in' is =
            let head : x ≡ i = cc in
            let tail : xs ≡ filter (has R) (range_with_len (i + 1) k) = cc in
            let call = pure x key f' called in
            let end = rest k (i + 1) ((f', key), x) q (omega arith) (record { callee = call.0; key = call.1; some = omega arith; so_far = subst (LeastBelow R f (i + 1)) (sym head) (first i from in' so_far) }) (subst (λ l. Turns ((f', key), x) l q) tail turns) in
            (end.0, onward k i q.1 end.1)

    pub least_picked : {S : Type 0} {steps : S → Option ℕ → S → Type 0} (s : S) (r : Option ℕ) → PicksMinByKey steps g nat_cmp s fn r → YieldsList steps (λ x. x) s (filter (has R) (range_with_len 1 16)) → MatchOption r (Somebody R → ⊥) (λ c. (has R c ≡ true) × LeastIn R f c)
    least_picked {S} {steps} s None ran all = λ some.
        let empty : filter (has R) (range_with_len 1 16) ≡ [] = sym (gives_Drains steps (λ x. x) [] (filter (has R) (range_with_len 1 16)) s all.runs ran) in
        both_ways (has R 0) (zero_in_none R) ((none_kept 16 1 (omega arith) (least_none R f) empty).least some.0 some.1.0 (omega (arith, some.1.1))).0
    least_picked {S} {steps} s (Some y) ran all =
        let items : ran.0 ∷ ran.1 ≡ filter (has R) (range_with_len 1 16) = sym (map-id (ran.0 ∷ ran.1)) ∙ gives_Drains steps (λ x. x) (ran.0 ∷ ran.1) (filter (has R) (range_with_len 1 16)) s all.runs ran.5 in
        let end = from_first 16 1 ran.0 ran.1 ran.2 ran.3 (ran.4, y) (omega arith) (least_none R f) items ran.6 ran.7 in
        (end.1.stands end.0, least_of_16 R f 17 y (omega arith) end.1)
