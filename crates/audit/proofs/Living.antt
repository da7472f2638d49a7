-- Live is what was entered and not withdrawn since.
use Rattle.std.proofs.Common.{◌≡◌, ℕ, zero, suc, Bool, true, false, cond, not, eqb, ◌⊎◌, List, [], ◌∷◌, ◌++◌, filter, sym, refl, ap, ◌∙◌, subst, inl, inr, ⊎_elim, arith}
use Rattle.std.proofs.ByRecursion.{all-has, all_has_itself, all_kept_by, kept_by_passes, has_append_left, has_push, has_push_cases}
use Rattle.std.proofs.lemmas.Bool.{eqb-false, ne_eqb, not-true}
use Rattle.std.specs.List.{ContainsAt}
use Rattle.assertion.specs.declared.assertion.Assertion.{Assertion}
use Rattle.audit.specs.Entries.{Entry}
use Rattle.audit.specs.Calls.{Event, entered, withdrawn, accepted, tallied}
use Rattle.audit.specs.Histories.{live_in, IsLive}

module _ {X : Type 0} where
  pub has_here : (x : X) (xs : List X) → ContainsAt (x ∷ xs) x
  has_here x xs = (0, omega arith, λ d. refl)

  pub has_there : (y x : X) (xs : List X) → ContainsAt xs x → ContainsAt (y ∷ xs) x
  has_there y x xs (k, within, at) = (suc k, omega arith, at)

  pub has_cases : (y x : X) (xs : List X) → ContainsAt (y ∷ xs) x → (y ≡ x) ⊎ ContainsAt xs x
  has_cases y x xs (zero, within, at) = inl (at y)
  has_cases y x xs (suc k, within, at) = inr (k, omega arith, at)

  pub none_has : (x : X) → ContainsAt [] x → ⊥
  none_has x (k, within, at) = omega arith

  has_kept : (p : X → Bool) (xs : List X) (x : X) → ContainsAt xs x → p x ≡ true → ContainsAt (filter p xs) x
  has_kept p [] x has passes = absurd (none_has x has)
  has_kept p (y ∷ xs) x has passes =
      ⊎_elim
      (λ here. subst (λ b. ContainsAt (cond b (y ∷ filter p xs) (filter p xs)) x) (sym (ap p here ∙ passes)) (subst (ContainsAt (y ∷ filter p xs)) here (has_here y (filter p xs))))
      (λ there. let rest : ContainsAt (filter p xs) x = has_kept p xs x there passes in elim (p y) as (λ b. ContainsAt (cond b (y ∷ filter p xs) (filter p xs)) x) [ true ↦ has_there y x (filter p xs) rest | false ↦ rest ])
      (has_cases y x xs has)

abbrev one : ℕ → Assertion → Entry
one n a = record { number = n; assertion = a }

-- one more event that does not withdraw it
later : (h : List Event) (n : ℕ) (a : Assertion) (e : Event) → (e ≡ withdrawn n → ⊥) → IsLive h n a → IsLive (e ∷ h) n a
later h n a e other is = record {
  since = e ∷ is.since;
  earlier = is.earlier;
  parts = ap (λ x. e ∷ x) is.parts;
  kept = λ has. ⊎_elim other is.kept (has_cases e (withdrawn n) is.since has);
}

differs : (e f : Event) → (e ≡ f → ◌≡◌ {A = ℕ} 0 1) → e ≡ f → ⊥
differs e f not_so is = let z : ◌≡◌ {A = ℕ} 0 1 = not_so is in omega arith

pub live_from : (h : List Event) (n : ℕ) (a : Assertion) → ContainsAt (live_in h) (one n a) → IsLive h n a
live_from [] n a has = absurd (none_has (one n a) has)
live_from (entered m b ∷ h) n a has =
    ⊎_elim (λ before. later h n a (entered m b) (differs _ _ (λ e. cc)) (live_from h n a before))
    (λ same. let number : m ≡ n = ap (λ e. e.number) same in let assertion : b ≡ a = ap (λ e. e.assertion) same in record { since = []; earlier = h; parts = cc; kept = none_has (withdrawn n) })
    (has_push_cases (live_in h) (one m b) (one n a) has)
live_from (withdrawn m ∷ h) n a has =
    let p : Entry → Bool = λ e. not (eqb e.number m) in
    let before : ContainsAt (live_in h) (one n a) = all-has (ContainsAt (live_in h)) (filter p (live_in h)) (one n a) (all_kept_by p (ContainsAt (live_in h)) (live_in h) (all_has_itself (live_in h))) has in
    let passes : not (eqb n m) ≡ true = all-has (λ e. p e ≡ true) (filter p (live_in h)) (one n a) (kept_by_passes p (live_in h)) has in
    later h n a (withdrawn m) (λ is. let same : m ≡ n = cc in eqb-false n m (not-true (eqb n m) passes) (sym same)) (live_from h n a before)
live_from (accepted k ∷ h) n a has = later h n a (accepted k) (differs _ _ (λ e. cc)) (live_from h n a has)
live_from (tallied gs ∷ h) n a has = later h n a (tallied gs) (differs _ _ (λ e. cc)) (live_from h n a has)

still_live : (since earlier : List Event) (n : ℕ) (a : Assertion) → (ContainsAt since (withdrawn n) → ⊥) → ContainsAt (live_in (since ++ (entered n a ∷ earlier))) (one n a)
still_live [] earlier n a kept = has_push (live_in earlier) (one n a)
still_live (entered m b ∷ since) earlier n a kept =
    has_append_left (live_in (since ++ (entered n a ∷ earlier))) (one m b ∷ []) (one n a) (still_live since earlier n a (λ has. kept (has_there (entered m b) (withdrawn n) since has)))
still_live (withdrawn m ∷ since) earlier n a kept =
    has_kept (λ e. not (eqb e.number m)) (live_in (since ++ (entered n a ∷ earlier))) (one n a) (still_live since earlier n a (λ has. kept (has_there (withdrawn m) (withdrawn n) since has)))
    (ap not (ne_eqb n m (λ same. kept (subst (λ x. ContainsAt (withdrawn x ∷ since) (withdrawn n)) same (has_here (withdrawn n) since)))))
still_live (accepted k ∷ since) earlier n a kept = still_live since earlier n a (λ has. kept (has_there (accepted k) (withdrawn n) since has))
still_live (tallied gs ∷ since) earlier n a kept = still_live since earlier n a (λ has. kept (has_there (tallied gs) (withdrawn n) since has))

pub live_to : (h : List Event) (n : ℕ) (a : Assertion) → IsLive h n a → ContainsAt (live_in h) (one n a)
live_to h n a is = subst (λ x. ContainsAt (live_in x) (one n a)) (sym is.parts) (still_live is.since is.earlier n a is.kept)
