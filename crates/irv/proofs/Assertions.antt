-- The laws of the three kinds of assertions.
use Rattle.std.proofs.Common.{◌≡◌, ℕ, zero, suc, ◌+◌, ◌*◌, ◌^◌, ◌<◌, ◌≤◌, Bool, true, false, cond, not, ◌&&◌, ◌||◌, eqb, ltb, leb, List, [], ◌∷◌, map, pos, ◌-ℤ◌, Some, None, sum_by, Option, sym, refl, ap, ◌∙◌, subst, ⊎_elim, arith}
use Rattle.std.proofs.lemmas.Int.{ints}
use Rattle.std.proofs.lemmas.List.Sums.{sum_by-cons}
use Rattle.std.proofs.lemmas.Bool.{cases_lt, eqb-true, eqb-false, ne_eqb, leb-true, ltb-true, lt-ltb, and_parts, and_from, not-true, both_ways, or_left, or_cases, or_from, cases_eq}
use Rattle.std.specs.List.{AllByRecursion}
use Rattle.irv.specs.Sets.{Set, has, set_of}
use Rattle.irv.specs.Ballots.{Slate, member, mem, BallotGroup, ballots, Fits, owner, is_owned, belongs, worth, tally}
use Rattle.irv.specs.Orders.{CountOf}
use Rattle.irv.specs.Endings.{Ruling, Stands, Alternative, elected}
use Rattle.irv.specs.Assertions.{Written, neb, nen, maj, Cause, ranked_first, ahead, neb_value, nen_value, maj_value, neb_rules, nen_rules, maj_rules, value_of, top_of, half_of, rules_of, value_sum, margin, Holds, AllHold, rules_any, ContradictedBy, foreign_in, unascending_in, unless, fraction_fits, first_of, judged, members_from, members_of}
use Rattle.irv.specs.AssertionLaws.{SoundAssorter, SoundWritten, AllFine, AssertionLaws}
use Rattle.irv.proofs.Bits.{zero_in_none, listed, same_members, none_above}
use Rattle.irv.proofs.Outdoing.{Outdoes, Beaten, each_step, ruled_rightly}

-- where a ranking's owner is l, l is ranked, and nobody in R is ahead of it
owned_behind : (R : Set) (w l : ℕ) (r : List ℕ) → has R w ≡ true → belongs R r l ≡ true → (mem l r && not (ahead w l r)) ≡ true
owned_behind R w l [] is-w owns = absurd (both_ways false refl owns)
owned_behind R w l (c ∷ r) is-w owns = by (owned_behind R w l r is-w) (has R c) refl owns
  where
    by : (belongs R r l ≡ true → (mem l r && not (ahead w l r)) ≡ true) → (b : Bool) → has R c ≡ b → is_owned (cond b (Some c) (owner R r)) l ≡ true → ((eqb c l || mem l r) && not (not (eqb c l) && (eqb c w || ahead w l r))) ≡ true
    by later true in' is = rw is refl
    by later false out is =
        let other : eqb c w ≡ false = ne_eqb c w (λ e. both_ways (has R c) out (ap (has R) e ∙ is-w)) in
        rw other (at_rest (eqb c l) (mem l r) (ahead w l r) (later is))
      where
        at_rest : (x m a : Bool) → (m && not a) ≡ true → ((x || m) && not (not x && a)) ≡ true
        at_rest true m a h = refl
        at_rest false m a h = h

-- a ballot belongs to one at most
not_both : (R : Set) (r : List ℕ) (x y : ℕ) → (x ≡ y → ⊥) → belongs R r x ≡ true → belongs R r y ≡ false
not_both R r x y apart = at (owner R r)
  where
    at : (o : Option ℕ) → is_owned o x ≡ true → is_owned o y ≡ false
    at None h = refl
    at (Some z) h = ne_eqb z y (λ e. apart (sym (eqb-true z x h) ∙ e))

-- a ballot with w first belongs to w wherever w stands
first_owns : (R : Set) (w : ℕ) (r : List ℕ) → has R w ≡ true → ranked_first w r ≡ true → belongs R r w ≡ true
first_owns R w [] is h = absurd (both_ways false refl h)
first_owns R w (c ∷ r) is h = rw (ap (has R) (eqb-true c w h) ∙ is) h

neb_outdoes : (R : Set) (w l : ℕ) → (w ≡ l → ⊥) → has R w ≡ true → Outdoes (neb_value w l) 1 R w l
neb_outdoes R w l apart is r = by (ranked_first w r) refl (belongs R r l) refl
  where
    by : (f : Bool) → ranked_first w r ≡ f → (p : Bool) → belongs R r l ≡ p → cond f 2 (cond (mem l r && not (ahead w l r)) 0 1) + cond p 1 0 ≤ 1 + cond (belongs R r w) 1 0
    by true f true p = absurd (both_ways (belongs R r l) (not_both R r w l apart (first_owns R w r is f)) p)
    by true f false p = rw (first_owns R w r is f) (omega arith)
    by false f true p = rw (owned_behind R w l r is p) (omega arith)
    by false f false p = small (mem l r && not (ahead w l r))
      where
        small : (b : Bool) → cond b 0 1 + 0 ≤ 1 + cond (belongs R r w) 1 0
        small true = omega arith
        small false = omega arith

nen_exact : (R : Set) (w l : ℕ) → (w ≡ l → ⊥) → (r : List ℕ) → nen_value w l R r + cond (belongs R r l) 1 0 ≡ 1 + cond (belongs R r w) 1 0
nen_exact R w l apart r = by (belongs R r w) refl (belongs R r l) refl
  where
    by : (p : Bool) → belongs R r w ≡ p → (q : Bool) → belongs R r l ≡ q → cond p 2 (cond q 0 1) + cond q 1 0 ≡ 1 + cond p 1 0
    by true p true q = absurd (both_ways (belongs R r l) (not_both R r w l apart p) q)
    by true p false q = refl
    by false p true q = refl
    by false p false q = refl

maj_outdoes : (R : Set) (w a b x : ℕ) → (w ≡ x → ⊥) → has R w ≡ true → b ≤ 2 * a → Outdoes (maj_value w a b) a R w x
maj_outdoes R w a b x apart is few [] = omega arith
maj_outdoes R w a b x apart is few (c ∷ r) = by (eqb c w) refl
  where
    part : (p : Bool) → 0 + cond p a 0 ≤ a + cond (belongs R (c ∷ r) w) a 0
    part true = omega arith
    part false = omega arith

    by : (f : Bool) → eqb c w ≡ f → cond f b 0 + cond (belongs R (c ∷ r) x) a 0 ≤ a + cond (belongs R (c ∷ r) w) a 0
    by true f = let mine : belongs R (c ∷ r) w ≡ true = first_owns R w (c ∷ r) is f in rw (mine, not_both R (c ∷ r) w x apart mine) (omega arith)
    by false f = part (belongs R (c ∷ r) x)

-- each kind from what its judgement asks
pub neb_sound : (s : Slate) (w l : ℕ) → (w ≡ l → ⊥) → SoundAssorter s (neb_value w l) 2 1 (neb_rules w l)
neb_sound s w l apart = record {
  within = λ r. small (ranked_first w r) (mem l r && not (ahead w l r));
  some = omega arith;
  half_within = omega arith;
  twice = omega arith;
  small = omega arith;
  rightly = λ gs fit. ruled_rightly (neb_value w l) 1 (neb_rules w l) beaten s gs;
}
  where
    small : (f p : Bool) → cond f 2 (cond p 0 1) ≤ 2
    small true p = omega arith
    small false true = omega arith
    small false false = omega arith

    beaten : Beaten (neb_value w l) 1 (neb_rules w l)
    beaten R c ruled stands =
        let parts = and_parts (eqb c w) (has R l) ruled in
        let same : c ≡ w = eqb-true c w parts.0 in
        (l, parts.1, subst (λ x. Outdoes (neb_value w l) 1 R x l) (sym same) (neb_outdoes R w l apart (ap (has R) (sym same) ∙ stands.0)))

pub nen_sound : (s : Slate) (w l : ℕ) (S : Set) → (w ≡ l → ⊥) → has S l ≡ true → SoundAssorter s (nen_value w l S) 2 1 (nen_rules w S)
nen_sound s w l S apart is-l = record {
  within = λ r. small (belongs S r w) (belongs S r l);
  some = omega arith;
  half_within = omega arith;
  twice = omega arith;
  small = omega arith;
  rightly = λ gs fit. ruled_rightly (nen_value w l S) 1 (nen_rules w S) beaten s gs;
}
  where
    small : (f p : Bool) → cond f 2 (cond p 0 1) ≤ 2
    small true p = omega arith
    small false true = omega arith
    small false false = omega arith

    beaten : Beaten (nen_value w l S) 1 (nen_rules w S)
    beaten R c ruled stands =
        let parts = and_parts (eqb c w) (eqb R S) ruled in
        let same : c ≡ w = eqb-true c w parts.0 in
        let here : R ≡ S = eqb-true R S parts.1 in (
          l,
          ap (λ T. has T l) here ∙ is-l,
          subst (λ T. Outdoes (nen_value w l S) 1 T c l) (sym here) (subst (λ x. Outdoes (nen_value w l S) 1 S x l) (sym same) (λ r. omega (arith, nen_exact S w l apart r))),
        )

pub maj_sound : (s : Slate) (w a b : ℕ) → fraction_fits a b ≡ true → SoundAssorter s (maj_value w a b) b a (maj_rules w)
maj_sound s w a b fits = record {
  within = within;
  some = omega (arith, two, few);
  half_within = omega (arith, below);
  twice = few;
  small = leb-true b 1000 (and_parts (leb b 1000) _ whole.1).0;
  rightly = λ gs fit. ruled_rightly (maj_value w a b) a (maj_rules w) beaten s gs;
}
  where
    whole : (leb 2 b ≡ true) × ((leb b 1000 && (ltb a b && leb b (2 * a))) ≡ true)
    whole = and_parts (leb 2 b) _ fits

    last : (ltb a b ≡ true) × (leb b (2 * a) ≡ true)
    last = and_parts (ltb a b) (leb b (2 * a)) (and_parts (leb b 1000) _ whole.1).1

    two : 2 ≤ b
    two = leb-true 2 b whole.0

    below : a < b
    below = ltb-true a b last.0

    few : b ≤ 2 * a
    few = leb-true b (2 * a) last.1

    within : (r : List ℕ) → maj_value w a b r ≤ b
    within [] = omega (arith, below)
    within (c ∷ r) = by (eqb c w)
      where
        by : (f : Bool) → cond f b 0 ≤ b
        by true = omega arith
        by false = omega arith

    beaten : Beaten (maj_value w a b) a (maj_rules w)
    beaten R c ruled stands =
        let same : c ≡ w = eqb-true c w ruled in (
          stands.1.0,
          stands.1.1,
          subst (λ x. Outdoes (maj_value w a b) a R x stands.1.0) (sym same) (maj_outdoes R w a b stands.1.0 (λ e. stands.1.2 (sym e ∙ sym same)) (ap (has R) (sym same) ∙ stands.0) few),
        )

-- what it means that no cause is found
pub none_of : (x : Option Cause) (xs : List (Option Cause)) → first_of (x ∷ xs) ≡ None → (x ≡ None) × (first_of xs ≡ None)
none_of None xs h = (refl, h)
none_of (Some c) xs h = let z : ◌≡◌ {A = ℕ} 0 1 = cc in absurd (omega arith)

unless_none : (b : Bool) (c : Cause) → unless b c ≡ None → b ≡ true
unless_none true c h = refl
unless_none false c h = let z : ◌≡◌ {A = ℕ} 0 1 = cc in absurd (omega arith)

apart_if : (w l : ℕ) (c : Cause) → unless (not (eqb w l)) c ≡ None → w ≡ l → ⊥
apart_if w l c h = eqb-false w l (not-true (eqb w l) (unless_none (not (eqb w l)) c h))

first_fits : (s : Slate) (c : ℕ) (cs : List ℕ) → foreign_in s (c ∷ cs) ≡ None → (member s c ≡ true) × (foreign_in s cs ≡ None)
first_fits s c cs h = by (member s c) refl h
  where
    by : (b : Bool) → member s c ≡ b → cond b (foreign_in s cs) (Some (Cause.foreign c)) ≡ None → (member s c ≡ true) × (foreign_in s cs ≡ None)
    by true e h = (e, h)
    by false e h = let z : ◌≡◌ {A = ℕ} 0 1 = cc in absurd (omega arith)

pub neb_judged : (s : Slate) (w l : ℕ) → judged s (neb w l) ≡ None → w ≡ l → ⊥
neb_judged s w l h =
    let sames : first_of (unless (not (eqb w l)) (Cause.same w) ∷ []) ≡ None = (none_of (foreign_in s (w ∷ l ∷ [])) _ h).1 in
    apart_if w l (Cause.same w) (none_of (unless (not (eqb w l)) (Cause.same w)) [] sames).0

pub nen_judged : (s : Slate) (w l : ℕ) (set : List ℕ) → judged s (nen w l set) ≡ None → (w ≡ l → ⊥) × ((member s l ≡ true) × (mem l set ≡ true))
nen_judged s w l set h =
    let foreigns = none_of (foreign_in s (w ∷ l ∷ set)) _ h in
    let sames = none_of (unless (not (eqb w l)) (Cause.same w)) _ foreigns.1 in
    let order = none_of (unascending_in set) _ sames.1 in
    let winner = none_of (unless (mem w set) (Cause.lacks_winner w)) _ order.1 in
    let loser = none_of (unless (mem l set) (Cause.lacks_loser l)) _ winner.1 in
    (apart_if w l _ sames.0, ((first_fits s l set (first_fits s w (l ∷ set) foreigns.0).1).0, unless_none (mem l set) _ loser.0))

pub maj_judged : (s : Slate) (w a b : ℕ) → judged s (maj w a b) ≡ None → fraction_fits a b ≡ true
maj_judged s w a b h =
    let fractions : first_of (unless (fraction_fits a b) Cause.fraction ∷ []) ≡ None = (none_of (foreign_in s (w ∷ [])) _ h).1 in
    unless_none (fraction_fits a b) Cause.fraction (none_of (unless (fraction_fits a b) Cause.fraction) [] fractions).0

pub neb_law : (s : Slate) (w l : ℕ) → SoundWritten s (neb w l)
neb_law s w l h = neb_sound s w l (neb_judged s w l h)

pub nen_law : (s : Slate) (w l : ℕ) (set : List ℕ) → SoundWritten s (nen w l set)
nen_law s w l set h =
    let fine = nen_judged s w l set h in
    nen_sound s w l (set_of set) fine.0 (listed set l ∙ and_from (ltb 0 l) (mem l set) (and_parts (leb 1 l) _ fine.1.0).0 fine.1.1)

pub maj_law : (s : Slate) (w a b : ℕ) → SoundWritten s (maj w a b)
maj_law s w a b h = maj_sound s w a b (maj_judged s w a b h)

-- a list of assertions
pub kind_law : (s : Slate) (a : Written) → SoundWritten s a
kind_law s (neb w l) = neb_law s w l
kind_law s (nen w l set) = nen_law s w l set
kind_law s (maj w a b) = maj_law s w a b

pub none_ruled : (o : List ℕ) → Stands (rules_any []) o
none_ruled [] = tt
none_ruled (c ∷ []) = tt
none_ruled (c ∷ d ∷ e) = (refl, none_ruled (d ∷ e))

-- any assorters that are sound and hold on the ballots rule out no step of a count together
pub all_stand : {X : Type 0} (value : X → List ℕ → ℕ) (top half : X → ℕ) (rules : X → Ruling) (s : Slate) (gs : List BallotGroup) (xs : List X) → Fits s gs → AllByRecursion (λ x. SoundAssorter s (value x) (top x) (half x) (rules x)) xs → AllByRecursion (λ x. Holds (value x) (half x) s gs) xs → (o : List ℕ) → CountOf s gs o → Stands (rules_any (map rules xs)) o
all_stand value top half rules s gs [] fit sound hold o count = none_ruled o
all_stand value top half rules s gs (x ∷ xs) fit sound hold o count =
    each_step (λ R c. rules x R c ≡ false) (λ R c. rules_any (map rules xs) R c ≡ false) (λ R c. (rules x R c || rules_any (map rules xs) R c) ≡ false)
    (λ R c one rest. or_from (rules x R c) (rules_any (map rules xs) R c) one rest)
    o (sound.0.rightly gs fit hold.0 o count) (all_stand value top half rules s gs xs fit sound.1 hold.1 o count)

each_sound : (s : Slate) (xs : List Written) → AllByRecursion (λ a. judged s a ≡ None) xs → AllByRecursion (λ a. SoundAssorter s (value_of a) (top_of a) (half_of a) (rules_of a)) xs
each_sound s [] fine = tt
each_sound s (a ∷ xs) fine = (kind_law s a fine.0, each_sound s xs fine.1)

each_holds : (s : Slate) (gs : List BallotGroup) (xs : List Written) → AllHold s gs (map (λ a. (value_of a, half_of a)) xs) → AllByRecursion (λ a. Holds (value_of a) (half_of a) s gs) xs
each_holds s gs [] hold = tt
each_holds s gs (a ∷ xs) hold = (hold.0, each_holds s gs xs hold.1)

pub count_stands : (s : Slate) (gs : List BallotGroup) (xs : List Written) → Fits s gs → AllByRecursion (λ a. judged s a ≡ None) xs → AllHold s gs (map (λ a. (value_of a, half_of a)) xs) → (o : List ℕ) → CountOf s gs o → Stands (rules_any (map rules_of xs)) o
count_stands s gs xs fit fine hold = all_stand value_of top_of half_of rules_of s gs xs fit (each_sound s xs fine) (each_holds s gs xs hold)

pub none_contradicted : (s : Slate) (gs : List BallotGroup) (xs : List Written) → Fits s gs → AllFine s gs xs → (o : List ℕ) → CountOf s gs o → ContradictedBy (map rules_of xs) o → ⊥
none_contradicted s gs xs fit fine o count against = against (count_stands s gs xs fit fine.fit fine.hold o count)

pub winner_elected : (s : Slate) (gs : List BallotGroup) (xs : List Written) (winner : ℕ) → Fits s gs → AllFine s gs xs → ((p : List ℕ) → Alternative s winner p → ContradictedBy (map rules_of xs) p) → (o : List ℕ) → CountOf s gs o → elected o ≡ winner
winner_elected s gs xs winner fit fine others o count =
    ⊎_elim (λ same. same) (λ another. absurd (none_contradicted s gs xs fit fine o count (others o (record { order = count.order; another = another })))) (cases_eq (elected o) winner)

-- the margin of nen, group by group
nen_many : (v n : ℕ) (p q : Bool) → v + cond p 1 0 ≡ 1 + cond q 1 0 → v * n + cond p n 0 ≡ n + cond q n 0
nen_many v n true true e = let one : v ≡ 1 = omega arith in omega (arith, ap (λ x. x * n) one)
nen_many v n true false e = let one : v ≡ 0 = omega arith in omega (arith, ap (λ x. x * n) one)
nen_many v n false true e = let one : v ≡ 2 = omega arith in omega (arith, ap (λ x. x * n) one)
nen_many v n false false e = let one : v ≡ 1 = omega arith in omega (arith, ap (λ x. x * n) one)

nen_sum : (s : Slate) (gs : List BallotGroup) (w l : ℕ) (R : Set) → (w ≡ l → ⊥) → value_sum (nen_value w l R) s gs + sum_by (worth s R l) gs ≡ ballots gs + sum_by (worth s R w) gs
nen_sum s [] w l R apart = refl
nen_sum s (g ∷ gs) w l R apart =
    omega (
      arith,
      sum_by-cons (λ g. nen_value w l R g.ranking * g.count) g gs,
      sum_by-cons (worth s R l) g gs,
      sum_by-cons (worth s R w) g gs,
      sum_by-cons (λ g. g.count) g gs,
      nen_many (nen_value w l R g.ranking) g.count (belongs R g.ranking l) (belongs R g.ranking w) (nen_exact R w l apart g.ranking),
      nen_sum s gs w l R apart,
    )

pub nen_margin : (s : Slate) (gs : List BallotGroup) (w l : ℕ) (R : Set) → (w ≡ l → ⊥) → margin (nen_value w l R) 1 s gs ≡ pos (tally s gs R w) -ℤ pos (tally s gs R l)
unfolding tally
nen_margin s gs w l R apart = omega (arith, ints, nen_sum s gs w l R apart)

-- who is among the ascending members of a set
pub mem_has : (R : Set) (k n c : ℕ) → mem c (members_from R k n) ≡ true → has R c ≡ true
mem_has R k zero c h = absurd (both_ways false refl h)
mem_has R k (suc n) c h = by (mem_has R (k + 1) n c) (has R k) refl h
  where
    by : (mem c (members_from R (k + 1) n) ≡ true → has R c ≡ true) → (b : Bool) → has R k ≡ b → mem c (cond b (k ∷ members_from R (k + 1) n) (members_from R (k + 1) n)) ≡ true → has R c ≡ true
    by later true is h = ⊎_elim (λ e. ap (has R) (sym (eqb-true k c e)) ∙ is) later (or_cases (eqb k c) _ h)
    by later false is h = later h

mem_low : (R : Set) (k n c : ℕ) → c < k → mem c (members_from R k n) ≡ false
mem_low R k zero c below = refl
mem_low R k (suc n) c below = by (mem_low R (k + 1) n c (omega arith)) (has R k)
  where
    by : mem c (members_from R (k + 1) n) ≡ false → (b : Bool) → mem c (cond b (k ∷ members_from R (k + 1) n) (members_from R (k + 1) n)) ≡ false
    by later true = rw (ne_eqb k c (omega arith)) later
    by later false = later

mem_high : (R : Set) (k n c : ℕ) → k + n ≤ c → mem c (members_from R k n) ≡ false
mem_high R k zero c above = refl
mem_high R k (suc n) c above = by (mem_high R (k + 1) n c (omega arith)) (has R k)
  where
    by : mem c (members_from R (k + 1) n) ≡ false → (b : Bool) → mem c (cond b (k ∷ members_from R (k + 1) n) (members_from R (k + 1) n)) ≡ false
    by later true = rw (ne_eqb k c (omega arith)) later
    by later false = later

pub mem_members : (R : Set) (k n c : ℕ) → k ≤ c → c < k + n → mem c (members_from R k n) ≡ has R c
mem_members R k zero c low high = absurd (omega arith)
mem_members R k (suc n) c low high = by (λ apart. mem_members R (k + 1) n c (omega (arith, apart)) (omega arith)) (eqb k c) refl (has R k) refl
  where
    by : ((k ≡ c → ⊥) → mem c (members_from R (k + 1) n) ≡ has R c) → (e : Bool) → eqb k c ≡ e → (b : Bool) → has R k ≡ b → mem c (cond b (k ∷ members_from R (k + 1) n) (members_from R (k + 1) n)) ≡ has R c
    by later true e true is = or_left (eqb k c) _ e ∙ sym (ap (has R) (sym (eqb-true k c e)) ∙ is)
    by later true e false is = mem_low R (k + 1) n c (omega (arith, eqb-true k c e)) ∙ sym (ap (has R) (sym (eqb-true k c e)) ∙ is)
    by later false e true is = rw e (later (eqb-false k c e))
    by later false e false is = later (eqb-false k c e)

-- the members of a set, listed, are ascending
ascending_after : (R : Set) (c k n : ℕ) → c < k → unascending_in (c ∷ members_from R k n) ≡ None
ascending_after R c k zero below = refl
ascending_after R c k (suc n) below = by (ascending_after R k (k + 1) n (omega arith)) (ascending_after R c (k + 1) n (omega arith)) (has R k)
  where
    by : unascending_in (k ∷ members_from R (k + 1) n) ≡ None → unascending_in (c ∷ members_from R (k + 1) n) ≡ None → (b : Bool) → unascending_in (c ∷ cond b (k ∷ members_from R (k + 1) n) (members_from R (k + 1) n)) ≡ None
    by with-k without-k true = rw (lt-ltb c k below) with-k
    by with-k without-k false = without-k

pub ascending : (R : Set) (k n : ℕ) → unascending_in (members_from R k n) ≡ None
ascending R k zero = refl
ascending R k (suc n) = by (ascending R (k + 1) n) (has R k)
  where
    by : unascending_in (members_from R (k + 1) n) ≡ None → (b : Bool) → unascending_in (cond b (k ∷ members_from R (k + 1) n) (members_from R (k + 1) n)) ≡ None
    by later true = ascending_after R k (k + 1) n (omega arith)
    by later false = later

pub members_are : (R : Set) → members_of R ≡ members_from R 1 16
unfolding members_of
members_are R = refl

pub members_make_set : (R : Set) → R < 2 ^ 16 → set_of (members_of R) ≡ R
unfolding members_of
members_make_set R small = same_members (set_of (members_of R)) R same
  where
    at_some : (c : ℕ) → 1 ≤ c → mem c (members_of R) ≡ has R c
    at_some c low = ⊎_elim (λ h. mem_members R 1 16 c low h) (λ h. mem_high R 1 16 c h ∙ sym (none_above 16 R c small (omega arith))) (cases_lt c 17)

    same : (c : ℕ) → has (set_of (members_of R)) c ≡ has R c
    same c =
        ⊎_elim
        (λ h. let e : 0 ≡ c = omega arith in subst (λ x. has (set_of (members_of R)) x ≡ has R x) e (zero_in_none (set_of (members_of R)) ∙ sym (zero_in_none R)))
        (λ h. listed (members_of R) c ∙ rw (lt-ltb 0 c h) (at_some c h))
        (cases_lt c 1)

pub assertion_laws : AssertionLaws
assertion_laws = record {
  neb_law = neb_law;
  nen_law = nen_law;
  maj_law = maj_law;
  nen_margin = nen_margin;
  members_make_set = members_make_set;
  none_contradicted = none_contradicted;
  winner_elected = winner_elected;
}
