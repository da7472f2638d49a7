-- A set, and a ranking, grown by one candidate at a time.
use Rattle.std.proofs.Common.{◌≡◌, ℕ, ◌+◌, ◌<◌, ◌≤◌, Bool, true, false, cond, ◌&&◌, ◌||◌, eqb, ltb, leb, List, [], ◌++◌, length, get_or, take, drop, is_some, Some, None, Option, sym, refl, ap, ◌∙◌, subst, arith, take-append-drop}
use Rattle.std.proofs.lemmas.List.{take_more, drop_more}
use Rattle.std.proofs.lemmas.Bool.{lt-ltb, leb-true, and_parts, and_right, both_ways}
use Rattle.std.proofs.lemmas.Bool.Decides.{nat_tests}
use Rattle.irv.specs.Sets.{Set, empty, has, with}
use Rattle.irv.specs.Ballots.{Slate, member, mem, ranks}
use Rattle.irv.proofs.Bits.{none_in_empty, one_more}
use Rattle.irv.proofs.Lists.{mem_push, ranks_push, not_ranked}
use Rattle.ballot.specs.Sets.{in_range}
use Rattle.ballot.specs.Values.{FirstUnfit}

-- the candidates from 1 up to, but without, k
abbrev pub UpTo : Set → ℕ → Type 0
UpTo R k = (c : ℕ) → has R c ≡ (leb 1 c && ltb c k)

pub none_yet : (R : Set) → R ≡ empty → UpTo R 1
none_yet R e c = ap (λ S. has S c) e ∙ none_in_empty c ∙ grind (arith, nat_tests)

pub room_for : (c : ℕ) → 1 ≤ c → c ≤ 16 → in_range c ≡ true
room_for c some few = grind (arith, nat_tests)

pub up_by_one : (R S : Set) (k : ℕ) (r : Bool) → 1 ≤ k → k ≤ 16 → r ≡ in_range k → S ≡ cond r (with k R) R → UpTo R k → UpTo S (k + 1)
up_by_one R S k r some few told after before c =
    let grown : S ≡ with k R = after ∙ ap (λ b. cond b (with k R) R) (told ∙ room_for k some few) in
    ap (λ T. has T c) grown ∙ one_more k c R ∙ ap (λ b. (ltb 0 k && eqb k c) || b) (before c) ∙ grind (arith, nat_tests)

-- xs is a ranking, and seen is the set of its candidates
pub record Ranked (s : Slate) (seen : Set) (xs : List ℕ) : Type 0 where
  pub ranking : ranks s xs ≡ true
  pub seen_all : (c : ℕ) → has seen c ≡ (ltb 0 c && mem c xs)

pub ranked_none : (s : Slate) (seen : Set) → seen ≡ empty → Ranked s seen []
ranked_none s seen e = record { ranking = refl; seen_all = λ c. ap (λ R. has R c) e ∙ none_in_empty c ∙ sym (and_right (ltb 0 c) false refl) }

module _ (s : Slate) (few : s.candidates ≤ 16) (seen : Set) (xs : List ℕ) (i : ℕ) (within : i < length xs) (so_far : Ranked s seen (take i xs)) where
  pub ranked_more : (after : Set) (r : Bool) → member s (get_or xs i 0) ≡ true → has seen (get_or xs i 0) ≡ false → r ≡ in_range (get_or xs i 0) → after ≡ cond r (with (get_or xs i 0) seen) seen → Ranked s after (take (i + 1) xs)
  ranked_more after r is new told grown =
      let x : ℕ = get_or xs i 0 in
      let bounds = and_parts (leb 1 x) (leb x s.candidates) is in
      let some : 1 ≤ x = leb-true 1 x bounds.0 in
      let room : in_range x ≡ true = room_for x some (omega (arith, leb-true x s.candidates bounds.1)) in
      let is_with : after ≡ with x seen = grown ∙ ap (λ b. cond b (with x seen) seen) (told ∙ room) in
      let positive : ltb 0 x ≡ true = lt-ltb 0 x some in
      let unseen : mem x (take i xs) ≡ false = sym (ap (λ b. b && mem x (take i xs)) positive) ∙ sym (so_far.seen_all x) ∙ new in
      subst (Ranked s after) (sym (take_more xs i 0 within)) (record {
        ranking = ranks_push s (take i xs) x so_far.ranking is unseen;
        seen_all = λ c. ap (λ R. has R c) is_with ∙ one_more x c seen ∙ ap (λ b. (ltb 0 x && eqb x c) || b) (so_far.seen_all c) ∙ joined_test x c (mem c (take i xs)) some ∙ sym (ap (λ b. ltb 0 c && b) (mem_push c (take i xs) x));
      })
    where
      joined_test : (x c : ℕ) (m : Bool) → 1 ≤ x → ((ltb 0 x && eqb x c) || (ltb 0 c && m)) ≡ (ltb 0 c && (m || eqb x c))
      joined_test x c true h = grind (arith, nat_tests)
      joined_test x c false h = grind (arith, nat_tests)

-- a list is a ranking exactly where no place is unfit
pub unfit_somewhere : (s : Slate) (xs : List ℕ) (r : Option ℕ) → FirstUnfit s xs r → is_some r ≡ true → ranks s xs ≡ false
unfit_somewhere s xs None told some = absurd (both_ways false refl some)
unfit_somewhere s xs (Some i) told some =
    subst (λ l. ranks s l ≡ false) (ap (λ l. take i xs ++ l) (sym (drop_more xs i 0 told.0)) ∙ take-append-drop i xs) (not_ranked s (take i xs) (get_or xs i 0) (drop (i + 1) xs) told.1.1)

pub unfit_nowhere : (s : Slate) (xs : List ℕ) (r : Option ℕ) → FirstUnfit s xs r → is_some r ≡ false → ranks s xs ≡ true
unfit_nowhere s xs None told none = told
unfit_nowhere s xs (Some i) told none = absurd (both_ways true none refl)
