-- The endings in the order in which they are tried, as a list: it ascends, and holds exactly the tried endings.
use Rattle.std.proofs.Common.{◌≡◌, ℕ, zero, suc, ◌+◌, ◌-◌, ◌<◌, ◌≤◌, Bool, true, false, cond, ◌||◌, eqb, leb, List, [], ◌∷◌, ◌++◌, reverse, length, sym, refl, ap, subst, inl, inr, ⊎_elim, arith}
use mathlib.Core.List.{reverse_aux, reverse_aux-reverse_aux-nil, reverse-reverse}
use Rattle.std.proofs.ByRecursion.{All-append, All-weaker}
use Rattle.std.proofs.lemmas.Bool.{and_parts, and_from, both_ways, eqb-false, eqb-true, ne_eqb, le-leb, leb-true, not-true, not_from_false}
use Rattle.std.specs.List.{AllByRecursion}
use Rattle.irv.specs.Sets.{set_of}
use Rattle.irv.specs.Ballots.{Slate, member, mem, ranks}
use Rattle.irv.specs.Endings.{Ruling, Earlier, Before, elected, IsOpen, Tried}
use Rattle.irv.specs.Walks.{upward, may_join, grown, spread, walk}
use Rattle.irv.proofs.Lists.{first_member, first_once, rest_ranks, ranks_from, ranked_at_most_once}
use Rattle.irv.proofs.Comparing.{Among, Rising, all_among}

pub upward_next : (n i : ℕ) → i < n + 1 → upward (n + 1 - i) i ≡ i ∷ upward (n + 1 - (i + 1)) (i + 1)
upward_next n i h = let e : n + 1 - i ≡ suc (n + 1 - (i + 1)) = omega arith in ap (λ k. upward k i) e

pub upward_end : (n i : ℕ) → n + 1 ≤ i → upward (n + 1 - i) i ≡ []
upward_end n i h = let e : n + 1 - i ≡ 0 = omega arith in ap (λ k. upward k i) e

pub upward_all : (n : ℕ) → upward (n + 1 - 1) 1 ≡ upward n 1
upward_all n = let e : n + 1 - 1 ≡ n = omega arith in ap (λ k. upward k 1) e

mem_upward : (k i c : ℕ) → i ≤ c → c < i + k → mem c (upward k i) ≡ true
mem_upward zero i c low high = absurd (omega arith)
mem_upward (suc k) i c low high = by (mem_upward k (i + 1) c) (eqb i c) refl
  where
    by : (i + 1 ≤ c → c < i + 1 + k → mem c (upward k (i + 1)) ≡ true) → (b : Bool) → eqb i c ≡ b → (b || mem c (upward k (i + 1))) ≡ true
    by later true e = refl
    by later false e = let other = eqb-false i c e in later (omega arith) (omega arith)

-- x is e with one member or more added, of which the first is i or higher
pub record Under (i : ℕ) (e x : List ℕ) : Type 0 where
  pub first : ℕ
  pub more : List ℕ
  pub low : i ≤ first
  pub same : x ≡ reverse_aux more (first ∷ e)

earlier_after : (e xs ys : List ℕ) → Earlier xs ys → Earlier (reverse_aux e xs) (reverse_aux e ys)
earlier_after [] xs ys h = h
earlier_after (a ∷ e) xs ys h = earlier_after e (a ∷ xs) (a ∷ ys) (inr (refl, h))

-- two endings with the same part are compared by what was added to it
before_by : (u v e : List ℕ) → Earlier u v → Before (reverse_aux u e) (reverse_aux v e)
before_by u v e h =
    subst (λ x. Earlier x (reverse (reverse_aux v e))) (sym (reverse_aux-reverse_aux-nil u e))
    (subst (λ y. Earlier (reverse_aux e u) y) (sym (reverse_aux-reverse_aux-nil v e)) (earlier_after e u v h))

before_under : (c : ℕ) (e v x : List ℕ) (i : ℕ) → c < i → Under i e x → Before (reverse_aux v (c ∷ e)) x
before_under c e v x i less is =
    subst (Before (reverse_aux v (c ∷ e))) (sym is.same) (before_by (c ∷ v) (is.first ∷ is.more) e (inl (omega (arith, is.low))))

before_grown : (e x : List ℕ) (i : ℕ) → Under i e x → Before e x
before_grown e x i is = subst (Before e) (sym is.same) (before_by [] (is.first ∷ is.more) e tt)

under_weaker : (i : ℕ) (e x : List ℕ) → Under (i + 1) e x → Under i e x
under_weaker i e x is = record { first = is.first; more = is.more; low = omega (arith, is.low); same = is.same }

under_deeper : (i c : ℕ) (e x : List ℕ) (j : ℕ) → i ≤ c → Under j (c ∷ e) x → Under i e x
under_deeper i c e x j low is = record { first = c; more = is.first ∷ is.more; low = low; same = is.same }

rising_append : (xs ys : List (List ℕ)) → Rising xs → Rising ys → AllByRecursion (λ x. AllByRecursion (Before x) ys) xs → Rising (xs ++ ys)
rising_append [] ys p q between = q
rising_append (x ∷ xs) ys p q between = (All-append (Before x) xs ys p.0 between.0, rising_append xs ys p.1 q between.1)

-- where everything below an open ending lies under it and rises
module _ (r : Ruling) (w : ℕ) (below : List ℕ → List (List ℕ)) (deep : (e : List ℕ) → AllByRecursion (Under 1 e) (below e)) (rise : (e : List ℕ) → Rising (below e)) where
  grown_under : (e : List ℕ) (c : ℕ) → AllByRecursion (λ x. (v : List ℕ) × (x ≡ reverse_aux v (c ∷ e))) (grown r below e c)
  grown_under e c = (([], refl), by (r (set_of (c ∷ e)) c))
    where
      by : (b : Bool) → AllByRecursion (λ x. (v : List ℕ) × (x ≡ reverse_aux v (c ∷ e))) (cond b [] (below (c ∷ e)))
      by true = tt
      by false = All-weaker (Under 1 (c ∷ e)) (λ x. (v : List ℕ) × (x ≡ reverse_aux v (c ∷ e))) (λ x is. (is.first ∷ is.more, is.same)) (below (c ∷ e)) (deep (c ∷ e))

  grown_rises : (e : List ℕ) (c : ℕ) → Rising (grown r below e c)
  grown_rises e c = by (r (set_of (c ∷ e)) c)
    where
      by : (b : Bool) → Rising ((c ∷ e) ∷ cond b [] (below (c ∷ e)))
      by true = (tt, tt)
      by false = (All-weaker (Under 1 (c ∷ e)) (Before (c ∷ e)) (λ x is. before_grown (c ∷ e) x 1 is) (below (c ∷ e)) (deep (c ∷ e)), rise (c ∷ e))

  spread_under : (e : List ℕ) (k i : ℕ) → AllByRecursion (Under i e) (spread r w below e (upward k i))
  spread_under e zero i = tt
  spread_under e (suc k) i = All-append (Under i e) (cond (may_join w e i) (grown r below e i) []) (spread r w below e (upward k (i + 1))) (by (may_join w e i)) (All-weaker (Under (i + 1) e) (Under i e) (under_weaker i e) (spread r w below e (upward k (i + 1))) (spread_under e k (i + 1)))
    where
      by : (b : Bool) → AllByRecursion (Under i e) (cond b (grown r below e i) [])
      by true = All-weaker (λ x. (v : List ℕ) × (x ≡ reverse_aux v (i ∷ e))) (Under i e) (λ x is. record { first = i; more = is.0; low = omega arith; same = is.1 }) (grown r below e i) (grown_under e i)
      by false = tt

  spread_rises : (e : List ℕ) (k i : ℕ) → Rising (spread r w below e (upward k i))
  spread_rises e zero i = tt
  spread_rises e (suc k) i = by (spread_rises e k (i + 1)) (may_join w e i)
    where
      before_rest : (x : List ℕ) → ((v : List ℕ) × (x ≡ reverse_aux v (i ∷ e))) → AllByRecursion (Before x) (spread r w below e (upward k (i + 1)))
      before_rest x is = All-weaker (Under (i + 1) e) (Before x) (λ y low. subst (λ z. Before z y) (sym is.1) (before_under i e is.0 y (i + 1) (omega arith) low)) (spread r w below e (upward k (i + 1))) (spread_under e k (i + 1))

      by : Rising (spread r w below e (upward k (i + 1))) → (b : Bool) → Rising (cond b (grown r below e i) [] ++ spread r w below e (upward k (i + 1)))
      by later true = rising_append (grown r below e i) (spread r w below e (upward k (i + 1))) (grown_rises e i) later (All-weaker (λ x. (v : List ℕ) × (x ≡ reverse_aux v (i ∷ e))) (λ x. AllByRecursion (Before x) (spread r w below e (upward k (i + 1)))) before_rest (grown r below e i) (grown_under e i))
      by later false = later

walk_both : (r : Ruling) (w n k : ℕ) → ((e : List ℕ) → AllByRecursion (Under 1 e) (walk r w n k e)) × ((e : List ℕ) → Rising (walk r w n k e))
walk_both r w n zero = (λ e. tt, λ e. tt)
walk_both r w n (suc k) =
    let rest = walk_both r w n k in
    (λ e. spread_under r w (walk r w n k) rest.0 rest.1 e n 1, λ e. spread_rises r w (walk r w n k) rest.0 rest.1 e n 1)

pub walk_rises : (r : Ruling) (w n k : ℕ) (e : List ℕ) → Rising (walk r w n k e)
walk_rises r w n k e = (walk_both r w n k).1 e

-- an ending from which the walk may go on: different members, open, and not ending with the winner
pub record Open (s : Slate) (r : Ruling) (w : ℕ) (e : List ℕ) : Type 0 where
  pub ranking : ranks s e ≡ true
  pub last : (c : ℕ) (f : List ℕ) → e ≡ c ∷ f → elected (c ∷ f) ≡ w → ⊥
  pub free : IsOpen r e

-- the ending with one more member is tried where the member may join
tried_if : (s : Slate) (r : Ruling) (w : ℕ) (e : List ℕ) (c : ℕ) → Open s r w e → member s c ≡ true → may_join w e c ≡ true → Tried s r w (c ∷ e)
tried_if s r w [] c is in' may = (ranks_from s c [] in' refl refl, (λ same. eqb-false c w (not-true (eqb c w) may) same, tt))
tried_if s r w (d ∷ e) c is in' may = (ranks_from s c (d ∷ e) in' (not-true (mem c (d ∷ e)) may) is.ranking, (λ same. is.last d e refl same, is.free))

open_if : (s : Slate) (r : Ruling) (w : ℕ) (e : List ℕ) (c : ℕ) → Tried s r w (c ∷ e) → r (set_of (c ∷ e)) c ≡ false → Open s r w (c ∷ e)
open_if s r w e c is free' = record {
  ranking = is.0;
  last = λ d f same. subst (λ l. elected l ≡ w → ⊥) same is.1.0;
  free = (free', is.1.1);
}

-- and the other way
may_if : (s : Slate) (r : Ruling) (w : ℕ) (e : List ℕ) (c : ℕ) → Tried s r w (c ∷ e) → may_join w e c ≡ true
may_if s r w [] c is = not_from_false (eqb c w) (ne_eqb c w is.1.0)
may_if s r w (d ∷ e) c is = not_from_false (mem c (d ∷ e)) (first_once s c (d ∷ e) is.0)

tried_before : (s : Slate) (r : Ruling) (w : ℕ) (e : List ℕ) (c d : ℕ) → Tried s r w (d ∷ c ∷ e) → Tried s r w (c ∷ e)
tried_before s r w e c d is = (rest_ranks s d (c ∷ e) is.0, (is.1.0, is.1.1.1))

-- every part of a tried ending is tried
part_tried : (s : Slate) (r : Ruling) (w : ℕ) (v e : List ℕ) (c : ℕ) → Tried s r w (reverse_aux v (c ∷ e)) → Tried s r w (c ∷ e)
part_tried s r w [] e c is = is
part_tried s r w (d ∷ v) e c is = tried_before s r w e c d (part_tried s r w v (c ∷ e) d is)

members_upward : (s : Slate) (k i : ℕ) → 1 ≤ i → i + k ≤ s.candidates + 1 → AllByRecursion (λ c. member s c ≡ true) (upward k i)
members_upward s zero i low high = tt
members_upward s (suc k) i low high = (and_from (leb 1 i) (leb i s.candidates) (le-leb 1 i low) (le-leb i s.candidates (omega arith)), members_upward s k (i + 1) (omega arith) (omega arith))

module _ (s : Slate) (r : Ruling) (w : ℕ) where
  spread_tried : (below : List ℕ → List (List ℕ)) → ((e : List ℕ) → Open s r w e → AllByRecursion (Tried s r w) (below e)) → (e : List ℕ) → Open s r w e → (cs : List ℕ) → AllByRecursion (λ c. member s c ≡ true) cs → AllByRecursion (Tried s r w) (spread r w below e cs)
  spread_tried below deep e is [] in' = tt
  spread_tried below deep e is (c ∷ cs) in' = All-append (Tried s r w) (cond (may_join w e c) (grown r below e c) []) (spread r w below e cs) (by (may_join w e c) refl (r (set_of (c ∷ e)) c) refl) (spread_tried below deep e is cs in'.1)
    where
      by : (b : Bool) → may_join w e c ≡ b → (q : Bool) → r (set_of (c ∷ e)) c ≡ q → AllByRecursion (Tried s r w) (cond b ((c ∷ e) ∷ cond q [] (below (c ∷ e))) [])
      by true may true stop = (tried_if s r w e c is in'.0 may, tt)
      by true may false stop = let here = tried_if s r w e c is in'.0 may in (here, deep (c ∷ e) (open_if s r w e c here stop))
      by false may true stop = tt
      by false may false stop = tt

  walk_tried : (k : ℕ) (e : List ℕ) → Open s r w e → AllByRecursion (Tried s r w) (walk r w s.candidates k e)
  walk_tried zero e is = tt
  walk_tried (suc k) e is = spread_tried (walk r w s.candidates k) (walk_tried k) e is (upward s.candidates 1) (members_upward s s.candidates 1 (omega arith) (omega arith))

  among_left : (x : List ℕ) (xs ys : List (List ℕ)) → Among x xs → Among x (xs ++ ys)
  among_left x [] ys in' = absurd in'
  among_left x (y ∷ xs) ys in' = ⊎_elim (λ same. inl same) (λ later. inr (among_left x xs ys later)) in'

  among_right : (x : List ℕ) (xs ys : List (List ℕ)) → Among x ys → Among x (xs ++ ys)
  among_right x [] ys in' = in'
  among_right x (y ∷ xs) ys in' = inr (among_right x xs ys in')

  among_spread : (below : List ℕ → List (List ℕ)) (e x : List ℕ) (c : ℕ) → may_join w e c ≡ true → Among x (grown r below e c) → (cs : List ℕ) → mem c cs ≡ true → Among x (spread r w below e cs)
  among_spread below e x c may in' [] here = absurd (both_ways false refl here)
  among_spread below e x c may in' (d ∷ cs) here = by (among_spread below e x c may in' cs) (eqb d c) refl here
    where
      by : (mem c cs ≡ true → Among x (spread r w below e cs)) → (b : Bool) → eqb d c ≡ b → (b || mem c cs) ≡ true → Among x (cond (may_join w e d) (grown r below e d) [] ++ spread r w below e cs)
      by later true same t =
          let first : Among x (cond (may_join w e d) (grown r below e d) []) = subst (λ a. Among x (cond (may_join w e a) (grown r below e a) [])) (sym (eqb-true d c same)) (subst (λ b. Among x (cond b (grown r below e c) [])) (sym may) in') in
          among_left x (cond (may_join w e d) (grown r below e d) []) (spread r w below e cs) first
      by later false same t = among_right x (cond (may_join w e d) (grown r below e d) []) (spread r w below e cs) (later t)

  -- each tried ending stands in the walk from any of its parts
  walk_whole : (k : ℕ) (e : List ℕ) → length e + k ≡ s.candidates → (v : List ℕ) (c : ℕ) → Tried s r w (reverse_aux v (c ∷ e)) → Among (reverse_aux v (c ∷ e)) (walk r w s.candidates k e)
  walk_whole zero e many v c is = let few : suc (length e) ≤ s.candidates = ranked_at_most_once s (c ∷ e) (part_tried s r w v e c is).0 in absurd (omega arith)
  walk_whole (suc k) e many v c is =
      let here = part_tried s r w v e c is in
      let in' = and_parts (leb 1 c) (leb c s.candidates) (first_member s c e here.0) in
      among_spread (walk r w s.candidates k) e (reverse_aux v (c ∷ e)) c (may_if s r w e c here) (by (walk_whole k (c ∷ e) (omega arith)) v is) (upward s.candidates 1)
      (mem_upward s.candidates 1 c (leb-true 1 c in'.0) (omega (arith, leb-true c s.candidates in'.1)))
    where
      by : ((v : List ℕ) (d : ℕ) → Tried s r w (reverse_aux v (d ∷ c ∷ e)) → Among (reverse_aux v (d ∷ c ∷ e)) (walk r w s.candidates k (c ∷ e))) → (v : List ℕ) → Tried s r w (reverse_aux v (c ∷ e)) → Among (reverse_aux v (c ∷ e)) (grown r (walk r w s.candidates k) e c)
      by later [] is = inl refl
      by later (d ∷ v) is =
          let open' : r (set_of (c ∷ e)) c ≡ false = (part_tried s r w v (c ∷ e) d is).1.1.0 in
          inr (subst (λ b. Among (reverse_aux v (d ∷ c ∷ e)) (cond b [] (walk r w s.candidates k (c ∷ e)))) (sym open') (later v d is))

  -- the whole walk
  abbrev pub all_endings : List (List ℕ)
  all_endings = walk r w s.candidates s.candidates []

  pub all_rise : Rising all_endings
  all_rise = walk_rises r w s.candidates s.candidates []

  pub every_tried : AllByRecursion (Tried s r w) all_endings
  every_tried = walk_tried s.candidates [] (record { ranking = refl; last = λ c f same. let z : ◌≡◌ {A = ℕ} 0 1 = cc in absurd (omega arith); free = tt })

  pub all_are_tried : (e : List ℕ) → Among e all_endings → Tried s r w e
  all_are_tried e in' = all_among (Tried s r w) all_endings e every_tried in'

  pub tried_are_all : (e : List ℕ) → Tried s r w e → Among e all_endings
  tried_are_all e is = by (reverse e) (reverse-reverse e)
    where
      by : (u : List ℕ) → reverse u ≡ e → Among e all_endings
      by [] same = absurd (subst (Tried s r w) (sym same) is)
      by (d ∷ v) same = subst (λ x. Among x all_endings) same (walk_whole s.candidates [] (omega arith) v d (subst (Tried s r w) (sym same) is))
