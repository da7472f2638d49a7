-- What a ranking says of its fronts, and that the first wrong number of a line stands in one place.
use Rattle.std.proofs.Common.{◌≡◌, ℕ, true, false, ◌⊎◌, List, [], ◌∷◌, ◌++◌, sym, refl, ap, ◌∙◌, inl, inr, ⊎_elim}
use Rattle.std.proofs.lemmas.Bool.{both_ways}
use Rattle.irv.specs.Ballots.{Slate, member, mem, ranks}
use Rattle.irv.proofs.Lists.{ranked_within}
use Rattle.forms.specs.Texts.{WrongAfter}
use Rattle.forms.specs.Written.{Line}

pub not_wrong : (s : Slate) (ok : List ℕ) (c : ℕ) (later : List ℕ) → ranks s (ok ++ (c ∷ later)) ≡ true → (member s c ≡ false) ⊎ (mem c ok ≡ true) → ⊥
not_wrong s ok c later h fault =
    let right = ranked_within s ok c later h in
    ⊎_elim (λ foreign. both_ways (member s c) foreign right.0) (λ again. both_ways (mem c ok) right.1 again) fault

-- two fronts of one list, each with the number behind it, are the same or one goes on over the other's number
fronts : (a b : List ℕ) (v w : ℕ) (x y : List ℕ) → a ++ (v ∷ x) ≡ b ++ (w ∷ y) → (a ≡ b) ⊎ (((more : List ℕ) × (b ≡ a ++ (v ∷ more))) ⊎ ((more : List ℕ) × (a ≡ b ++ (w ∷ more))))
fronts [] [] v w x y e = inl refl
fronts [] (c ∷ b) v w x y e = inr (inl (b, cc))
fronts (c ∷ a) [] v w x y e = inr (inr (a, cc))
fronts (c ∷ a) (d ∷ b) v w x y e =
    let first : c ≡ d = cc in
    ⊎_elim (λ same. inl (cc)) (⊎_elim (λ p. inr (inl (longer first p))) (λ p. inr (inr (shorter first p)))) (fronts a b v w x y (cc))
  where
    longer : c ≡ d → (more : List ℕ) × (b ≡ a ++ (v ∷ more)) → (more : List ℕ) × (d ∷ b ≡ c ∷ (a ++ (v ∷ more)))
    longer first (more, is) = (more, cc)

    shorter : c ≡ d → (more : List ℕ) × (a ≡ b ++ (w ∷ more)) → (more : List ℕ) × (c ∷ a ≡ d ∷ (b ++ (w ∷ more)))
    shorter first (more, is) = (more, cc)

pub no_wrong : (s : Slate) (l : Line) (ok : List ℕ) → ranks s l.numbers ≡ true → WrongAfter s l ok → ⊥
no_wrong s l ok right w = not_wrong s ok w.wrong w.later (ap (ranks s) (sym w.split) ∙ right) w.fault

pub one_wrong : (s : Slate) (l : Line) (a b : List ℕ) → WrongAfter s l a → WrongAfter s l b → a ≡ b
one_wrong s l a b p q =
    ⊎_elim (λ same. same)
    (⊎_elim (λ m. absurd (not_wrong s a p.wrong m.0 (ap (ranks s) (sym m.1) ∙ q.right) p.fault))
    (λ m. absurd (not_wrong s b q.wrong m.0 (ap (ranks s) (sym m.1) ∙ p.right) q.fault)))
    (fronts a b p.wrong q.wrong p.later q.later (sym p.split ∙ q.split))
