-- Some order elects another than a given candidate.
use Rattle.std.proofs.Common.{◌≡◌, ℕ, zero, suc, ◌≤◌, true, ◌&&◌, ◌||◌, eqb, leb, List, [], ◌∷◌, ◌++◌, sym, refl, ap, ◌∙◌, ⊎_elim, arith}
use Rattle.std.proofs.lemmas.Bool.{cases_eq}
use Rattle.std.proofs.lemmas.Bool.Decides.{nat_tests}
use Rattle.irv.specs.Ballots.{Slate, slate, mem, ranks, Proper}
use Rattle.irv.specs.Endings.{Alternative, elected}
use Rattle.irv.proofs.Lists.{down, mem_down, ranks_down, mem_push, ranks_push}

-- the candidates 1 to n, ascending
abbrev up : ℕ → List ℕ
up zero = []
up (suc n) = up n ++ (suc n ∷ [])

mem_up : (n c : ℕ) → mem c (up n) ≡ (leb 1 c && leb c n)
mem_up zero c = grind (arith, nat_tests)
mem_up (suc n) c = mem_push c (up n) (suc n) ∙ ap (λ b. b || eqb (suc n) c) (mem_up n c) ∙ grind (arith, nat_tests)

ranks_up : (m n : ℕ) → n ≤ m → ranks (slate m) (up n) ≡ true
ranks_up m zero low = refl
ranks_up m (suc n) low = ranks_push (slate m) (up n) (suc n) (ranks_up m n (omega arith)) (grind (arith, nat_tests)) (mem_up n (suc n) ∙ grind (arith, nat_tests))

elected_last : (xs : List ℕ) (x : ℕ) → elected (xs ++ (x ∷ [])) ≡ x
elected_last [] x = refl
elected_last (y ∷ []) x = refl
elected_last (y ∷ z ∷ xs) x = elected_last (z ∷ xs) x

elected_down : (n : ℕ) → elected (down (suc n)) ≡ 1
elected_down zero = refl
elected_down (suc n) = elected_down n

-- 1 where somebody else is given, and else n
pub another_order : (s : Slate) (w : ℕ) → Proper s → (p : List ℕ) × Alternative s w p
another_order s w proper = by s.candidates proper
  where
    by : (n : ℕ) → (2 ≤ n) × (n ≤ 16) → (p : List ℕ) × Alternative (slate n) w p
    by zero proper = absurd (omega arith)
    by (suc n) proper =
        ⊎_elim
        (λ one. (up (suc n), record { order = record { ranking = ranks_up (suc n) (suc n) (omega arith); whole = λ c in'. mem_up (suc n) c ∙ in' }; another = λ is. absurd (omega (arith, sym (elected_last (up n) (suc n)) ∙ is)) }))
        (λ other. (down (suc n), record { order = record { ranking = ranks_down (suc n) (suc n) (omega arith); whole = λ c in'. mem_down (suc n) c ∙ in' }; another = λ is. other (sym is ∙ elected_down n) }))
        (cases_eq w 1)
