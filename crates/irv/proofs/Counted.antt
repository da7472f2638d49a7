-- Endings taken one by one, counted, up to a limit and to the first survivor: what is found, and after how many.
use Rattle.std.proofs.Common.{◌≡◌, ℕ, zero, suc, ◌+◌, ◌<◌, ◌≤◌, Bool, true, false, cond, ltb, List, [], ◌∷◌, ◌++◌, length, Some, None, Option, sym, refl, ap, ◌∙◌, subst, inl, inr, ⊎_elim, arith}
use Rattle.std.proofs.lemmas.Bool.{both_ways, ltb-true, ltb-false, lt-ltb, le-ltb}
use Rattle.std.specs.List.{AllByRecursion}
use Rattle.irv.specs.Endings.{Before, NotAfter}
use Rattle.irv.specs.Walks.{Run, going, stopped, survived, next, run}
use Rattle.irv.proofs.Comparing.{Among, Rising, all_among, never_before, not_both}

-- final says which ending is a survivor
module _ (final : List ℕ → Bool) (limit : ℕ) where
  pub run_append : (u : Run) (xs ys : List (List ℕ)) → run final limit u (xs ++ ys) ≡ run final limit (run final limit u xs) ys
  run_append u [] ys = refl
  run_append u (x ∷ xs) ys = run_append (next final limit u x) xs ys

  pub run_stopped : (es : List (List ℕ)) → run final limit stopped es ≡ stopped
  run_stopped [] = refl
  run_stopped (e ∷ es) = run_stopped es

  pub run_survived : (o : List ℕ) (k : ℕ) (es : List (List ℕ)) → run final limit (survived o k) es ≡ survived o k
  run_survived o k [] = refl
  run_survived o k (e ∷ es) = run_survived o k es

  pub next_stops : (t : ℕ) (e : List ℕ) → limit ≤ t → next final limit (going t) e ≡ stopped
  next_stops t e over = ap (λ b. cond b (cond (final e) (survived e (t + 1)) (going (t + 1))) stopped) (le-ltb t limit over)

  pub next_within : (t : ℕ) (e : List ℕ) (b : Bool) → t < limit → final e ≡ b → next final limit (going t) e ≡ cond b (survived e (t + 1)) (going (t + 1))
  next_within t e b under is = ap (λ q. cond q (cond (final e) (survived e (t + 1)) (going (t + 1))) stopped) (lt-ltb t limit under) ∙ ap (λ q. cond q (survived e (t + 1)) (going (t + 1))) is

-- the first survivor of a list, and the list up to and with it
module _ (final : List ℕ → Bool) where
  abbrev pub pick : List (List ℕ) → Option (List ℕ)
  pick [] = None
  pick (e ∷ es) = cond (final e) (Some e) (pick es)

  abbrev pub up_to : List (List ℕ) → List (List ℕ)
  up_to [] = []
  up_to (e ∷ es) = e ∷ cond (final e) [] (up_to es)

-- what a search comes to that finds this after k endings
abbrev pub Ends : ℕ → Option (List ℕ) → ℕ → Run → Type 0
Ends limit found k (going t) = (found ≡ None) × ((t ≡ k) × (k ≤ limit))
Ends limit found k stopped = limit < k
Ends limit found k (survived o t) = (found ≡ Some o) × ((t ≡ k) × (k ≤ limit))

ends_from : (final : List ℕ → Bool) (limit t : ℕ) (es : List (List ℕ)) → t ≤ limit → Ends limit (pick final es) (t + length (up_to final es)) (run final limit (going t) es)
ends_from final limit t [] within = (refl, (omega arith, omega arith))
ends_from final limit t (e ∷ es) within = by (λ more. ends_from final limit (t + 1) es more) (final e) (ltb t limit) refl
  where
    by : (t + 1 ≤ limit → Ends limit (pick final es) (t + 1 + length (up_to final es)) (run final limit (going (t + 1)) es)) → (b q : Bool) → ltb t limit ≡ q → Ends limit (cond b (Some e) (pick final es)) (t + suc (length (cond b [] (up_to final es)))) (run final limit (cond q (cond b (survived e (t + 1)) (going (t + 1))) stopped) es)
    by later true true under = subst (Ends limit (Some e) (t + suc zero)) (sym (run_survived final limit e (t + 1) es)) (refl, (omega arith, omega (arith, ltb-true t limit under)))
    by later false true under =
        let same : t + 1 + length (up_to final es) ≡ t + suc (length (up_to final es)) = omega arith in
        subst (λ k. Ends limit (pick final es) k (run final limit (going (t + 1)) es)) same (later (omega (arith, ltb-true t limit under)))
    by later true false over = subst (Ends limit (Some e) (t + suc zero)) (sym (run_stopped final limit es)) (omega (arith, ltb-false t limit over))
    by later false false over = subst (Ends limit (pick final es) (t + suc (length (up_to final es)))) (sym (run_stopped final limit es)) (omega (arith, ltb-false t limit over))

pub ends : (final : List ℕ → Bool) (limit : ℕ) (es : List (List ℕ)) → Ends limit (pick final es) (length (up_to final es)) (run final limit (going 0) es)
ends final limit es =
    let same : 0 + length (up_to final es) ≡ length (up_to final es) = omega arith in
    subst (λ k. Ends limit (pick final es) k (run final limit (going 0) es)) same (ends_from final limit 0 es (omega arith))

module _ (final : List ℕ → Bool) where
  pub all_up_to : (P : List ℕ → Type 0) (es : List (List ℕ)) → AllByRecursion P es → AllByRecursion P (up_to final es)
  all_up_to P [] all = tt
  all_up_to P (e ∷ es) all = (all.0, by (all_up_to P es all.1) (final e))
    where
      by : AllByRecursion P (up_to final es) → (b : Bool) → AllByRecursion P (cond b [] (up_to final es))
      by later true = tt
      by later false = later

  pub up_to_rises : (es : List (List ℕ)) → Rising es → Rising (up_to final es)
  up_to_rises [] rise = tt
  up_to_rises (e ∷ es) rise = by (up_to_rises es rise.1) (final e)
    where
      by : Rising (up_to final es) → (b : Bool) → Rising (e ∷ cond b [] (up_to final es))
      by later true = (tt, tt)
      by later false = (all_up_to (Before e) es rise.0, later)

  pub picked_final : (es : List (List ℕ)) (o : List ℕ) → pick final es ≡ Some o → Among o es × (final o ≡ true)
  picked_final [] o is = let z : ◌≡◌ {A = ℕ} 0 1 = cc in absurd (omega arith)
  picked_final (e ∷ es) o is = by (picked_final es o) (final e) refl is
    where
      by : (pick final es ≡ Some o → Among o es × (final o ≡ true)) → (b : Bool) → final e ≡ b → cond b (Some e) (pick final es) ≡ Some o → Among o (e ∷ es) × (final o ≡ true)
      by later true at is = let same : e ≡ o = cc in (inl same, ap final (sym same) ∙ at)
      by later false at is = let rest = later is in (inr rest.0, rest.1)

  pub none_final : (es : List (List ℕ)) → pick final es ≡ None → AllByRecursion (λ e. final e ≡ false) es
  none_final [] is = tt
  none_final (e ∷ es) is = by (none_final es) (final e) refl is
    where
      by : (pick final es ≡ None → AllByRecursion (λ e. final e ≡ false) es) → (b : Bool) → final e ≡ b → cond b (Some e) (pick final es) ≡ None → AllByRecursion (λ e. final e ≡ false) (e ∷ es)
      by later true at is = let z : ◌≡◌ {A = ℕ} 0 1 = cc in absurd (omega arith)
      by later false at is = (at, later is)

  -- none before the picked one is a survivor
  pub picked_first : (es : List (List ℕ)) → Rising es → (o p : List ℕ) → pick final es ≡ Some o → Among p es → final p ≡ true → Before p o → ⊥
  picked_first [] rise o p is in' at before = in'
  picked_first (e ∷ es) rise o p is in' at before = by (picked_first es rise.1 o p) (final e) refl is
    where
      by : (pick final es ≡ Some o → Among p es → final p ≡ true → Before p o → ⊥) → (b : Bool) → final e ≡ b → cond b (Some e) (pick final es) ≡ Some o → ⊥
      by later true here is =
          let same : e ≡ o = cc in
          ⊎_elim (λ first. never_before o (subst (λ x. Before x o) (sym first ∙ same) before)) (λ rest. not_both p o before (subst (λ x. Before x p) same (all_among (Before e) es p rise.0 rest))) in'
      by later false here is = ⊎_elim (λ first. both_ways (final p) (ap final (sym first) ∙ here) at) (λ rest. later is rest at before) in'

  -- the list up to the picked one holds those that do not come after it
  pub up_to_not_after : (es : List (List ℕ)) → Rising es → AllByRecursion (NotAfter (pick final es)) (up_to final es)
  up_to_not_after [] rise = tt
  up_to_not_after (e ∷ es) rise = by (up_to_not_after es rise.1) (final e)
    where
      first : (found : Option (List ℕ)) → pick final es ≡ found → NotAfter found e
      first None is = tt
      first (Some o) is = λ before. not_both e o (all_among (Before e) es o rise.0 (picked_final es o is).0) before

      by : AllByRecursion (NotAfter (pick final es)) (up_to final es) → (b : Bool) → AllByRecursion (NotAfter (cond b (Some e) (pick final es))) (e ∷ cond b [] (up_to final es))
      by later true = (never_before e, tt)
      by later false = (first (pick final es) refl, later)

  pub not_after_up_to : (es : List (List ℕ)) → Rising es → (e : List ℕ) → Among e es → NotAfter (pick final es) e → Among e (up_to final es)
  not_after_up_to [] rise e in' not_after = in'
  not_after_up_to (x ∷ es) rise e in' not_after = by (not_after_up_to es rise.1 e) (final x) not_after
    where
      by : (Among e es → NotAfter (pick final es) e → Among e (up_to final es)) → (b : Bool) → NotAfter (cond b (Some x) (pick final es)) e → Among e (x ∷ cond b [] (up_to final es))
      by later true not_after = ⊎_elim (λ first. inl first) (λ rest. absurd (not_after (all_among (Before x) es e rise.0 rest))) in'
      by later false not_after = ⊎_elim (λ first. inl first) (λ rest. inr (later rest not_after)) in'
