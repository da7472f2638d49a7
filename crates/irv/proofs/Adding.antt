-- A table of tallies filled group by group: what it shows after each group, and that nothing in it passes the ballots.
use Rattle.std.proofs.Common.{◌≡◌, ℕ, ◌+◌, ◌-◌, ◌<◌, ◌≤◌, Bool, true, false, cond, ◌&&◌, ◌||◌, eqb, leb, ◌≢◌, List, [], ◌∷◌, length, get_or, drop, set, replicate, Some, None, sum_by, sym, refl, ap, ◌∙◌, subst, arith}
use Rattle.std.proofs.lemmas.List.{length-drop, get_or-set_same, get_or-set_other, get_or-replicate}
use Rattle.std.proofs.lemmas.List.Sums.{sum_by-cons, sum_by-take-drop}
use Rattle.std.proofs.lemmas.Bool.{eqb-true, eqb-false, leb-true, le-leb, and_parts, and_from, eq-eqb, or_left, or_right}
use Rattle.irv.specs.Sets.{Set, has}
use Rattle.irv.specs.Ballots.{Slate, BallotGroup, ballots, most_ballots, Fits, mem, ranks, owner, is_owned, worth, tally}
use Rattle.irv.specs.Tables.{shown, Shows}
use Rattle.irv.proofs.Lists.{all_members}
use Rattle.irv.proofs.Tallies.{at_most_all}

-- whoever owns a ballot is ranked on it
owner_ranked : (R : Set) (r : List ℕ) (x : ℕ) → owner R r ≡ Some x → mem x r ≡ true
owner_ranked R [] x e = let z : ◌≡◌ {A = ℕ} 0 1 = cc in absurd (omega arith)
owner_ranked R (c ∷ r) x e = by (owner_ranked R r x) (has R c) e
  where
    by : (owner R r ≡ Some x → mem x r ≡ true) → (b : Bool) → cond b (Some c) (owner R r) ≡ Some x → (eqb c x || mem x r) ≡ true
    by later true e = let same : c ≡ x = cc in or_left (eqb c x) (mem x r) (eq-eqb c x same)
    by later false e = or_right (eqb c x) (mem x r) (later e)

pub owner_bounds : (s : Slate) (R : Set) (r : List ℕ) (x : ℕ) → s.candidates ≤ 16 → ranks s r ≡ true → owner R r ≡ Some x → (1 ≤ x) × (x ≤ 16)
owner_bounds s R r x few h e =
    let parts = and_parts (leb 1 x) (leb x s.candidates) (all_members s r h x (owner_ranked R r x e)) in
    (leb-true 1 x parts.0, omega (arith, leb-true x s.candidates parts.1))

-- what a table shows at a place, and after a write
pub shown_at : (ts : List ℕ) (x : ℕ) → 1 ≤ x → x ≤ 16 → shown ts x ≡ get_or ts (x - 1) 0
shown_at ts x low high = ap (λ b. cond b (get_or ts (x - 1) 0) 0) (and_from (leb 1 x) (leb x 16) (le-leb 1 x low) (le-leb x 16 high))

shown_set : (ts : List ℕ) (x y c : ℕ) → length ts ≡ 16 → 1 ≤ x → x ≤ 16 → shown (set ts (x - 1) y) c ≡ cond (eqb x c) y (shown ts c)
shown_set ts x y c size low high = by (eqb x c) refl
  where
    other : (x ≡ c → ⊥) → (b : Bool) → (leb 1 c && leb c 16) ≡ b → cond b (get_or (set ts (x - 1) y) (c - 1) 0) 0 ≡ cond b (get_or ts (c - 1) 0) 0
    other ne true e =
        let from : 1 ≤ c = leb-true 1 c (and_parts (leb 1 c) (leb c 16) e).0 in
        let apart : c - 1 ≢ x - 1 = λ same. ne (omega arith) in
        get_or-set_other ts (x - 1) (c - 1) y 0 apart
    other ne false e = refl

    by : (b : Bool) → eqb x c ≡ b → shown (set ts (x - 1) y) c ≡ cond b y (shown ts c)
    by true e = subst (λ d. shown (set ts (x - 1) y) d ≡ y) (eqb-true x c e) (shown_at (set ts (x - 1) y) x low high ∙ get_or-set_same ts (x - 1) y 0 (omega arith))
    by false e = other (eqb-false x c e) (leb 1 c && leb c 16) refl

-- a table of zeros
abbrev pub zeros : List ℕ
zeros = replicate 16 0

pub shown_none : (c : ℕ) → shown zeros c ≡ 0
shown_none c = by (leb 1 c && leb c 16) refl
  where
    by : (b : Bool) → (leb 1 c && leb c 16) ≡ b → cond b (get_or zeros (c - 1) 0) 0 ≡ 0
    by true e =
        let from : 1 ≤ c = leb-true 1 c (and_parts (leb 1 c) (leb c 16) e).0 in
        let to : c ≤ 16 = leb-true c 16 (and_parts (leb 1 c) (leb c 16) e).1 in
        get_or-replicate 16 (c - 1) 0 0 (omega arith)
    by false e = refl

-- what ts shows, and what the groups of hs hold, is together what those of gs hold
abbrev pub Remains : Slate → List BallotGroup → Set → List BallotGroup → List ℕ → Type 0
Remains s gs R hs ts = (c : ℕ) → shown ts c + tally s hs R c ≡ tally s gs R c

pub all_remains : (s : Slate) (gs : List BallotGroup) (R : Set) → Remains s gs R gs zeros
all_remains s gs R c = omega (arith, shown_none c)

pub none_remains : (s : Slate) (gs : List BallotGroup) (R : Set) (hs : List BallotGroup) (ts : List ℕ) → hs ≡ [] → Remains s gs R hs ts → Shows s gs R ts
unfolding tally
none_remains s gs R hs ts end so_far c = let none : tally s hs R c ≡ 0 = ap (sum_by (worth s R c)) end in omega (arith, so_far c)

tally_first : (s : Slate) (g : BallotGroup) (hs : List BallotGroup) (R : Set) (c : ℕ) → tally s (g ∷ hs) R c ≡ worth s R c g + tally s hs R c
unfolding tally
tally_first s g hs R c = sum_by-cons (worth s R c) g hs

ballots_from : (gs : List BallotGroup) (p : ℕ) → ballots (drop p gs) ≤ ballots gs
ballots_from gs p = omega (arith, sum_by-take-drop (λ g. g.count) gs p)

-- g is the next of the groups that remain
module _ (s : Slate) (gs : List BallotGroup) (R : Set) (hs : List BallotGroup) (g : BallotGroup) (rest : List BallotGroup) (here : hs ≡ g ∷ rest) (ts : List ℕ) (so_far : Remains s gs R hs ts) where
  tally_next : (c : ℕ) → tally s hs R c ≡ worth s R c g + tally s rest R c
  tally_next c = ap (λ l. tally s l R c) here ∙ tally_first s g rest R c

  pub same_remains : owner R g.ranking ≡ None → Remains s gs R rest ts
  same_remains e c =
      let none : worth s R c g ≡ 0 = ap (λ o. cond (is_owned o c) g.count 0) e in
      omega (arith, so_far c, tally_next c)

  module _ (x : ℕ) (owns : owner R g.ranking ≡ Some x) (low : 1 ≤ x) (high : x ≤ 16) where
    worth_here : (c : ℕ) → worth s R c g ≡ cond (eqb x c) g.count 0
    worth_here c = ap (λ o. cond (is_owned o c) g.count 0) owns

    pub less_remains : length ts ≡ 16 → Remains s gs R rest (set ts (x - 1) (get_or ts (x - 1) 0 + g.count))
    less_remains size c = by (eqb x c) refl
      where
        after : (b : Bool) → eqb x c ≡ b → shown (set ts (x - 1) (get_or ts (x - 1) 0 + g.count)) c ≡ cond b (get_or ts (x - 1) 0 + g.count) (shown ts c)
        after b e = shown_set ts x (get_or ts (x - 1) 0 + g.count) c size low high ∙ ap (λ b. cond b (get_or ts (x - 1) 0 + g.count) (shown ts c)) e

        part : (b : Bool) → eqb x c ≡ b → worth s R c g ≡ cond b g.count 0
        part b e = worth_here c ∙ ap (λ b. cond b g.count 0) e

        by : (b : Bool) → eqb x c ≡ b → shown (set ts (x - 1) (get_or ts (x - 1) 0 + g.count)) c + tally s rest R c ≡ tally s gs R c
        by true e =
            let before : get_or ts (x - 1) 0 ≡ shown ts c = sym (shown_at ts x low high) ∙ ap (shown ts) (eqb-true x c e) in
            omega (arith, after true e, part true e, so_far c, tally_next c)
        by false e = omega (arith, after false e, part false e, so_far c, tally_next c)

    -- the sum stays within the ballots
    pub sum_within : get_or ts (x - 1) 0 + g.count ≤ ballots gs
    sum_within =
        let one : worth s R x g ≡ g.count = worth_here x ∙ ap (λ b. cond b g.count 0) (eq-eqb x x refl) in
        omega (arith, shown_at ts x low high, so_far x, tally_next x, at_most_all s gs R x)

-- among the groups from place p on
pub sum_within_from : (s : Slate) (gs : List BallotGroup) (p n : ℕ) → Fits s gs → n ≤ ballots (drop p gs) → n ≤ most_ballots
sum_within_from s gs p n fit h = omega (arith, ballots_from gs p, fit.sum)

-- a group handed out stands at its place
pub next_within : (gs : List BallotGroup) (p : ℕ) (g : BallotGroup) (rest : List BallotGroup) → drop p gs ≡ g ∷ rest → p < length gs
next_within gs p g rest here = omega (arith, length-drop p gs, ap length here)
