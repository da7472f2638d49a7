-- An assertion that holds keeps from going out whoever is outdone by its values on every ballot.
use Rattle.std.proofs.Common.{◌≡◌, ℕ, ◌+◌, ◌*◌, ◌<◌, ◌≤◌, Bool, true, false, cond, List, [], ◌∷◌, sum_by, ap, ⊎_elim, mul-le-mul_right, add-mul, mul-le-mul_left, mul-add, arith}
use Rattle.std.proofs.lemmas.Int.{ints}
use Rattle.std.proofs.lemmas.List.Sums.{sum_by-cons}
use Rattle.std.proofs.lemmas.Bool.{cases_Bool, cases_lt}
use Rattle.irv.specs.Sets.{Set, has}
use Rattle.irv.specs.Ballots.{Slate, BallotGroup, ballots, belongs, worth, tally}
use Rattle.irv.specs.Orders.{EachStep, Fewest, CountOf}
use Rattle.irv.specs.Endings.{Ruling, Stands}
use Rattle.irv.specs.Laws.{WithAnother}
use Rattle.irv.specs.Assertions.{value_sum, Holds}
use Rattle.irv.proofs.Lists.{steps_stand}

-- on each ballot the value passes the half by at most what it gives to c and takes from x
abbrev pub Outdoes : (List ℕ → ℕ) → ℕ → Set → ℕ → ℕ → Type 0
Outdoes value half R c x = (r : List ℕ) → value r + cond (belongs R r x) half 0 ≤ half + cond (belongs R r c) half 0

-- the same for n ballots
many : (v h n : ℕ) (p q : Bool) → v + cond p h 0 ≤ h + cond q h 0 → v * n + h * cond p n 0 ≤ h * n + h * cond q n 0
many v h n true true le = let m : v ≤ h = omega arith in omega (arith, mul-le-mul_right n m)
many v h n true false le = let m : v ≤ 0 = omega arith in omega (arith, mul-le-mul_right n m)
many v h n false true le = omega (arith, mul-le-mul_right n le, add-mul h h n)
many v h n false false le = let m : v ≤ h = omega arith in omega (arith, mul-le-mul_right n m)

module _ (value : List ℕ → ℕ) (half : ℕ) (s : Slate) (R : Set) (c x : ℕ) (each : Outdoes value half R c x) where
  outdone_sum : (gs : List BallotGroup) → value_sum value s gs + half * sum_by (worth s R x) gs ≤ half * ballots gs + half * sum_by (worth s R c) gs
  outdone_sum [] = omega arith
  outdone_sum (g ∷ gs) =
      omega (
        arith,
        sum_by-cons (λ g. value g.ranking * g.count) g gs,
        ap (λ n. half * n) (sum_by-cons (worth s R x) g gs),
        ap (λ n. half * n) (sum_by-cons (worth s R c) g gs),
        ap (λ n. half * n) (sum_by-cons (λ g. g.count) g gs),
        mul-add half (worth s R x g) (sum_by (worth s R x) gs),
        mul-add half (worth s R c g) (sum_by (worth s R c) gs),
        mul-add half g.count (ballots gs),
        many (value g.ranking) half g.count (belongs R g.ranking x) (belongs R g.ranking c) (each g.ranking),
        outdone_sum gs,
      )

  pub has_more : (gs : List BallotGroup) → Holds value half s gs → tally s gs R x < tally s gs R c
  unfolding tally
  has_more gs holds =
      let more : half * ballots gs < value_sum value s gs = omega (arith, ints, holds) in
      ⊎_elim (λ lt. lt) (λ ge. absurd (omega (arith, more, outdone_sum gs, mul-le-mul_left half ge))) (cases_lt (sum_by (worth s R x) gs) (sum_by (worth s R c) gs))

-- facts of each step, put together
pub each_step : (P Q S : Set → ℕ → Type 0) → ((R : Set) (c : ℕ) → P R c → Q R c → S R c) → (o : List ℕ) → EachStep P o → EachStep Q o → EachStep S o
each_step P Q S f [] p q = tt
each_step P Q S f (c ∷ []) p q = tt
each_step P Q S f (c ∷ d ∷ e) p q = (f _ c p.0 q.0, each_step P Q S f (d ∷ e) p.1 q.1)

-- whoever is ruled out has somebody beside him who is outdone
abbrev pub Beaten : (List ℕ → ℕ) → ℕ → Ruling → Type 0
Beaten value half rules = (R : Set) (c : ℕ) → rules R c ≡ true → WithAnother R c → (x : ℕ) × (has R x ≡ true) × Outdoes value half R c x

pub ruled_rightly : (value : List ℕ → ℕ) (half : ℕ) (rules : Ruling) → Beaten value half rules → (s : Slate) (gs : List BallotGroup) → Holds value half s gs → (o : List ℕ) → CountOf s gs o → Stands rules o
ruled_rightly value half rules beaten s gs holds o count =
    each_step WithAnother (Fewest s gs) (λ R c. rules R c ≡ false) step o (steps_stand s o count.order) count.steps
  where
    step : (R : Set) (c : ℕ) → WithAnother R c → Fewest s gs R c → rules R c ≡ false
    step R c stands fewest =
        ⊎_elim
        (λ is. let by = beaten R c is stands in absurd (omega (arith, fewest by.0 by.1, has_more value half s R c by.0 by.2 gs holds)))
        (λ out. out)
        (cases_Bool (rules R c))
