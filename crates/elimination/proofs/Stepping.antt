-- Who has the least of a table that shows the tallies goes out in a step of a count.
use Rattle.std.proofs.Common.{◌≡◌, ℕ, zero, suc, ◌<◌, ◌≤◌, Bool, true, false, List, Some, None, Option, Ok, Err, Result, refl, ◌∙◌, subst, arith}
use Rattle.std.proofs.lemmas.Bool.{both_ways}
use Rattle.std.specs.Result.{MatchResult, OnErr}
use Rattle.std.specs.Option.{MatchOption, IsSome}
use Rattle.irv.specs.Sets.{Set, has}
use Rattle.irv.proofs.Bits.{zero_in_none}
use Rattle.elimination.specs.Counts.{Somebody}
use Rattle.irv.specs.Ballots.{Slate, BallotGroup}
use Rattle.irv.specs.Tables.{shown, Shows, LeastIn, StepFrom}
use Rattle.ballot.specs.Sets.{Removed}

-- where none comes only if there is nobody, and there is somebody, one comes
pub one_comes : (r : Option ℕ) (Nobody : Type 0) (P : ℕ → Type 0) → MatchOption r Nobody P → (Nobody → ⊥) → IsSome r
one_comes None Nobody P h some = absurd (some h)
one_comes (Some x) Nobody P h some = refl

pub what_comes : (r : Option ℕ) (Nobody : Type 0) (P : ℕ → Type 0) (x : ℕ) → MatchOption r Nobody P → r ≡ Some x → P x
what_comes r Nobody P x h is = subst (λ o. MatchOption o Nobody P) is h

pub step_from : (s : Slate) (gs : List BallotGroup) (R : Set) (c : ℕ) (ts : List ℕ) (gone : Bool) (Q : Set) → Shows s gs R ts → (has R c ≡ true) × LeastIn R (shown ts) c → ((x : ℕ) → has R x ≡ true → x ≤ 16) → gone ≡ has R c → Removed gone c R Q → StepFrom s gs R c ts Q
step_from s gs R c ts gone Q shows least low is removed =
    let out : Removed true c R Q = subst (λ b. Removed b c R Q) (is ∙ least.0) removed in
    record {
      stood = least.0;
      fewest = λ x in'. omega (arith, (least.1 x in' (low x in')).1.0, shows c, shows x);
      lowest = λ x in' before. let less : shown ts c < shown ts x = (least.1 x in' (low x in')).1.1 before in omega (arith, less, shows c, shows x);
      table = shows;
      gone = out.0;
      back = out.1;
    }

-- a search for a candidate is not refused
pub not_refused : {T E : Type 0} (r : Result T E) (stands : Bool) (P : T → Type 0) (Q : E → Type 0) (End : Type 0) → stands ≡ true → MatchResult r P (λ e. (stands ≡ false) × Q e) → OnErr r End
not_refused (Ok a) stands P Q End is h = tt
not_refused (Err e) stands P Q End is h = absurd (both_ways stands h.0 is)

pub what_ends_well : {T E : Type 0} (r : Result T E) (P : T → Type 0) (Q : E → Type 0) (x : T) → MatchResult r P Q → r ≡ Ok x → P x
what_ends_well r P Q x h is = subst (λ o. MatchResult o P Q) is h

-- somebody is among the candidates
pub nobody_stands : (R : Set) → ((k : ℕ) → 1 ≤ k → k < 17 → has R k ≡ false) → Somebody R → ⊥
nobody_stands R none some = by some.0 some.1.0 some.1.1
  where
    by : (d : ℕ) → has R d ≡ true → d ≤ 16 → ⊥
    by zero is low = both_ways (has R 0) (zero_in_none R) is
    by (suc d) is low = both_ways (has R (suc d)) (none (suc d) (omega arith) (omega arith)) is
