-- Lists compared member by member: the order is strict and total, and an ascending list is told by its members.
use Rattle.std.proofs.Common.{◌≡◌, ℕ, zero, suc, ◌<◌, ◌⊎◌, List, [], ◌∷◌, reverse, length, get_or, sym, refl, ap, ◌∙◌, subst, inl, inr, ⊎_elim, arith}
use mathlib.Core.List.{reverse-reverse}
use Rattle.std.proofs.ByRecursion.{All-weaker}
use Rattle.std.proofs.lemmas.Bool.{cases_order}
use Rattle.std.specs.List.{ContainsAt, AllByRecursion}
use Rattle.irv.specs.Endings.{Earlier, Before, Ascending}

never_earlier : (xs : List ℕ) → Earlier xs xs → ⊥
never_earlier [] h = h
never_earlier (x ∷ xs) h = ⊎_elim (λ l. omega arith) (λ t. never_earlier xs t.1) h

earlier_through : (xs ys zs : List ℕ) → Earlier xs ys → Earlier ys zs → Earlier xs zs
earlier_through xs ys [] h k = k
earlier_through xs [] (z ∷ zs) h k = absurd h
earlier_through [] (y ∷ ys) (z ∷ zs) h k = tt
earlier_through (x ∷ xs) (y ∷ ys) (z ∷ zs) h k =
    ⊎_elim (λ a. ⊎_elim (λ b. inl (omega arith)) (λ b. inl (omega (arith, b.0))) k)
    (λ a. ⊎_elim (λ b. inl (omega (arith, a.0))) (λ b. inr (a.0 ∙ b.0, earlier_through xs ys zs a.1 b.1)) k) h

earlier_or_later : (xs ys : List ℕ) → (xs ≡ ys) ⊎ (Earlier xs ys ⊎ Earlier ys xs)
earlier_or_later [] [] = inl refl
earlier_or_later [] (y ∷ ys) = inr (inl tt)
earlier_or_later (x ∷ xs) [] = inr (inr tt)
earlier_or_later (x ∷ xs) (y ∷ ys) = ⊎_elim (λ e. by_rest e (earlier_or_later xs ys)) (⊎_elim (λ l. inr (inl (inl l))) (λ l. inr (inr (inl l)))) (cases_order x y)
  where
    by_rest : x ≡ y → (xs ≡ ys) ⊎ (Earlier xs ys ⊎ Earlier ys xs) → ((x ∷ xs) ≡ (y ∷ ys)) ⊎ (Earlier (x ∷ xs) (y ∷ ys) ⊎ Earlier (y ∷ ys) (x ∷ xs))
    by_rest e = ⊎_elim (λ same. inl (cc)) (⊎_elim (λ l. inr (inl (inr (e, l)))) (λ l. inr (inr (inr (sym e, l)))))

pub never_before : (e : List ℕ) → Before e e → ⊥
never_before e h = never_earlier (reverse e) h

pub before_through : (e f g : List ℕ) → Before e f → Before f g → Before e g
before_through e f g h k = earlier_through (reverse e) (reverse f) (reverse g) h k

pub not_both : (e f : List ℕ) → Before e f → Before f e → ⊥
not_both e f h k = never_before e (before_through e f e h k)

pub before_or_after : (e f : List ℕ) → (e ≡ f) ⊎ (Before e f ⊎ Before f e)
before_or_after e f = ⊎_elim (λ same. inl (sym (reverse-reverse e) ∙ ap reverse same ∙ reverse-reverse f)) (λ h. inr h) (earlier_or_later (reverse e) (reverse f))

-- x is one of the list
abbrev pub Among : {X : Type 0} → X → List X → Type 0
Among x [] = ⊥
Among x (y ∷ ys) = (y ≡ x) ⊎ Among x ys

pub among_from_has : (es : List (List ℕ)) (e : List ℕ) → ContainsAt es e → Among e es
among_from_has es e h = at es h.0 h.1 (h.2 [])
  where
    at : (es : List (List ℕ)) (k : ℕ) → k < length es → get_or es k [] ≡ e → Among e es
    at [] k l g = absurd (omega arith)
    at (x ∷ es) zero l g = inl g
    at (x ∷ es) (suc k) l g = inr (at es k (omega arith) g)

pub has_from_among : (es : List (List ℕ)) (e : List ℕ) → Among e es → ContainsAt es e
has_from_among [] e h = absurd h
has_from_among (x ∷ es) e h = ⊎_elim (λ same. (zero, omega arith, λ d. same)) (λ later. next (has_from_among es e later)) h
  where
    next : ContainsAt es e → ContainsAt (x ∷ es) e
    next g = (suc g.0, omega (arith, g.1), g.2)

pub all_among : {X : Type 0} (P : X → Type 0) (xs : List X) (x : X) → AllByRecursion P xs → Among x xs → P x
all_among P [] x all in' = absurd in'
all_among P (y ∷ ys) x all in' = ⊎_elim (λ same. subst P same all.0) (λ later. all_among P ys x all.1 later) in'

-- each comes before all that follow it
abbrev pub Rising : List (List ℕ) → Type 0
Rising [] = Unit {0}
Rising (e ∷ es) = AllByRecursion (Before e) es × Rising es

pub rising_from_ascending : (es : List (List ℕ)) → Ascending es → Rising es
rising_from_ascending [] h = tt
rising_from_ascending (e ∷ []) h = (tt, tt)
rising_from_ascending (e ∷ f ∷ es) h =
    let rest = rising_from_ascending (f ∷ es) h.1 in
    ((h.0, All-weaker (Before f) (Before e) (λ x k. before_through e f x h.0 k) es rest.0), rest)

pub ascending_from_rising : (es : List (List ℕ)) → Rising es → Ascending es
ascending_from_rising [] h = tt
ascending_from_rising (e ∷ []) h = tt
ascending_from_rising (e ∷ f ∷ es) h = (h.0.0, ascending_from_rising (f ∷ es) h.1)

-- two rising lists that begin with the same: what stands in the rest of one stands in the rest of the other
in_the_rest : (x y : List ℕ) (xs ys : List (List ℕ)) → AllByRecursion (Before x) xs → x ≡ y → (e : List ℕ) → Among e xs → Among e (y ∷ ys) → Among e ys
in_the_rest x y xs ys above first e in' = ⊎_elim (λ same. absurd (never_before e (subst (λ z. Before z e) (first ∙ same) (all_among (Before x) xs e above in')))) (λ later. later)

pub same_rising : (xs ys : List (List ℕ)) → Rising xs → Rising ys → ((e : List ℕ) → Among e xs → Among e ys) → ((e : List ℕ) → Among e ys → Among e xs) → xs ≡ ys
same_rising [] [] p q to from = refl
same_rising [] (y ∷ ys) p q to from = absurd (from y (inl refl))
same_rising (x ∷ xs) [] p q to from = absurd (to x (inl refl))
same_rising (x ∷ xs) (y ∷ ys) p q to from =
    let first : x ≡ y = ⊎_elim (λ a. sym a) (λ a. ⊎_elim (λ b. b) (λ b. absurd (not_both x y (all_among (Before x) xs y p.0 b) (all_among (Before y) ys x q.0 a))) (from y (inl refl))) (to x (inl refl)) in
    let rest : xs ≡ ys = same_rising xs ys p.1 q.1 (λ e h. in_the_rest x y xs ys p.0 first e h (to e (inr h))) (λ e h. in_the_rest y x ys xs q.0 (sym first) e h (from e (inr h))) in
    cc
