-- The walk from one ending, candidate by candidate: what is left after each turn leads where the whole walk leads.
use Rattle.std.proofs.Common.{◌≡◌, ℕ, suc, ◌+◌, ◌-◌, ◌<◌, ◌≤◌, Bool, true, false, cond, not, eqb, List, [], ◌∷◌, ◌++◌, length, sym, refl, ap, ◌∙◌, arith}
use Rattle.std.proofs.lemmas.Bool.{and_from, and_left, and_right, eq-eqb, ne_eqb, not_from_true, not_from_false}
use Rattle.irv.specs.Sets.{set_of}
use Rattle.irv.specs.Endings.{Ruling}
use Rattle.irv.specs.Walks.{upward, may_join, grown, spread, walk, is_survivor, Run, going, stopped, survived, next, run, run_below}
use Rattle.irv.proofs.Counted.{run_append, run_stopped, run_survived, next_stops, next_within}
use Rattle.irv.proofs.Walk.{upward_next, upward_end, upward_all}

-- the endings below e from candidate i on
abbrev onward : Ruling → ℕ → ℕ → List ℕ → ℕ → List (List ℕ)
onward r w n e i = spread r w (walk r w n (n - suc (length e))) e (upward (n + 1 - i) i)

-- what is left of the walk below e from candidate i on, with t tried, leads where the walk below e leads from t₀ on
abbrev pub Left : Ruling → ℕ → ℕ → ℕ → List ℕ → ℕ → ℕ → ℕ → Type 0
Left r w n limit e t₀ i t = run (is_survivor r n) limit (going t) (onward r w n e i) ≡ run_below r w n limit e t₀

module _ (r : Ruling) (w n limit : ℕ) (e : List ℕ) (t₀ : ℕ) where
  pub left_all : length e < n → Left r w n limit e t₀ 1 t₀
  left_all room =
      let k : n - length e ≡ suc (n - suc (length e)) = omega arith in
      ap (λ cs. run (is_survivor r n) limit (going t₀) (spread r w (walk r w n (n - suc (length e))) e cs)) (upward_all n) ∙ sym (ap (λ k. run (is_survivor r n) limit (going t₀) (walk r w n k e)) k)

  pub left_none : (i t : ℕ) → n + 1 ≤ i → Left r w n limit e t₀ i t → going t ≡ run_below r w n limit e t₀
  left_none i t end left = sym (ap (λ cs. run (is_survivor r n) limit (going t) (spread r w (walk r w n (n - suc (length e))) e cs)) (upward_end n i end)) ∙ left

  -- the turn of candidate i
  module _ (i t : ℕ) (more : i < n + 1) (left : Left r w n limit e t₀ i t) where
    here : run (is_survivor r n) limit (going t) (cond (may_join w e i) (grown r (walk r w n (n - suc (length e))) e i) [] ++ onward r w n e (i + 1)) ≡ run_below r w n limit e t₀
    here = sym (ap (λ cs. run (is_survivor r n) limit (going t) (spread r w (walk r w n (n - suc (length e))) e cs)) (upward_next n i more)) ∙ left

    pub left_skipped : may_join w e i ≡ false → Left r w n limit e t₀ (i + 1) t
    left_skipped may = sym (ap (λ b. run (is_survivor r n) limit (going t) (cond b (grown r (walk r w n (n - suc (length e))) e i) [] ++ onward r w n e (i + 1))) may) ∙ here

    module _ (may : may_join w e i ≡ true) where
      -- the ending with i comes first, then those below it, then the rest
      first : (u : Run) (q : Bool) → next (is_survivor r n) limit (going t) (i ∷ e) ≡ u → r (set_of (i ∷ e)) i ≡ q → run (is_survivor r n) limit (run (is_survivor r n) limit u (cond q [] (walk r w n (n - suc (length e)) (i ∷ e)))) (onward r w n e (i + 1)) ≡ run_below r w n limit e t₀
      first u q is out =
          sym (ap (λ v. run (is_survivor r n) limit (run (is_survivor r n) limit v (cond q [] (walk r w n (n - suc (length e)) (i ∷ e)))) (onward r w n e (i + 1))) is)
          ∙ sym (ap (λ q. run (is_survivor r n) limit (run (is_survivor r n) limit (next (is_survivor r n) limit (going t) (i ∷ e)) (cond q [] (walk r w n (n - suc (length e)) (i ∷ e)))) (onward r w n e (i + 1))) out)
          ∙ sym (run_append (is_survivor r n) limit (next (is_survivor r n) limit (going t) (i ∷ e)) (cond (r (set_of (i ∷ e)) i) [] (walk r w n (n - suc (length e)) (i ∷ e))) (onward r w n e (i + 1)))
          ∙ sym (ap (λ b. run (is_survivor r n) limit (going t) (cond b (grown r (walk r w n (n - suc (length e))) e i) [] ++ (onward r w n e (i + 1)))) may)
          ∙ here

      pub left_over : limit ≤ t → stopped ≡ run_below r w n limit e t₀
      left_over over = by (r (set_of (i ∷ e)) i) refl
        where
          by : (q : Bool) → r (set_of (i ∷ e)) i ≡ q → stopped ≡ run_below r w n limit e t₀
          by q out = sym (ap (λ v. run (is_survivor r n) limit v (onward r w n e (i + 1))) (run_stopped (is_survivor r n) limit (cond q [] (walk r w n (n - suc (length e)) (i ∷ e)))) ∙ run_stopped (is_survivor r n) limit (onward r w n e (i + 1))) ∙ first stopped q (next_stops (is_survivor r n) limit t (i ∷ e) over) out

      module _ (under : t < limit) where
        pub left_blocked : r (set_of (i ∷ e)) i ≡ true → Left r w n limit e t₀ (i + 1) (t + 1)
        left_blocked out = first (going (t + 1)) true (next_within (is_survivor r n) limit t (i ∷ e) false under (and_right (eqb (length (i ∷ e)) n) (not (r (set_of (i ∷ e)) i)) (not_from_true (r (set_of (i ∷ e)) i) out))) out

        pub left_full : r (set_of (i ∷ e)) i ≡ false → length (i ∷ e) ≡ n → survived (i ∷ e) (t + 1) ≡ run_below r w n limit e t₀
        left_full out full =
            let final : is_survivor r n (i ∷ e) ≡ true = and_from (eqb (length (i ∷ e)) n) (not (r (set_of (i ∷ e)) i)) (eq-eqb (length (i ∷ e)) n full) (not_from_false (r (set_of (i ∷ e)) i) out) in
            sym (ap (λ v. run (is_survivor r n) limit v (onward r w n e (i + 1))) (run_survived (is_survivor r n) limit (i ∷ e) (t + 1) (walk r w n (n - suc (length e)) (i ∷ e))) ∙ run_survived (is_survivor r n) limit (i ∷ e) (t + 1) (onward r w n e (i + 1))) ∙ first (survived (i ∷ e) (t + 1)) false (next_within (is_survivor r n) limit t (i ∷ e) true under final) out

        -- u is where the walk below the ending with i leads
        module _ (out : r (set_of (i ∷ e)) i ≡ false) (short : length (i ∷ e) < n) (u : Run) (leads : u ≡ run_below r w n limit (i ∷ e) (t + 1)) where
          after : run (is_survivor r n) limit u (onward r w n e (i + 1)) ≡ run_below r w n limit e t₀
          after = ap (λ v. run (is_survivor r n) limit v (onward r w n e (i + 1))) leads ∙ first (going (t + 1)) false (next_within (is_survivor r n) limit t (i ∷ e) false under (and_left (eqb (length (i ∷ e)) n) (not (r (set_of (i ∷ e)) i)) (ne_eqb (length (i ∷ e)) n (λ same. omega arith)))) out

          pub left_open : (k : ℕ) → u ≡ going k → Left r w n limit e t₀ (i + 1) k
          left_open k is = sym (ap (λ v. run (is_survivor r n) limit v (onward r w n e (i + 1))) is) ∙ after

          pub left_open_stopped : u ≡ stopped → stopped ≡ run_below r w n limit e t₀
          left_open_stopped is = sym (ap (λ v. run (is_survivor r n) limit v (onward r w n e (i + 1))) is ∙ run_stopped (is_survivor r n) limit (onward r w n e (i + 1))) ∙ after

          pub left_open_survived : (o : List ℕ) (k : ℕ) → u ≡ survived o k → survived o k ≡ run_below r w n limit e t₀
          left_open_survived o k is = sym (ap (λ v. run (is_survivor r n) limit v (onward r w n e (i + 1))) is ∙ run_survived (is_survivor r n) limit o k (onward r w n e (i + 1))) ∙ after
