-- An ending grows by one slot, and who is in its set may not join it again.
use Rattle.std.proofs.Common.{◌≡◌, ℕ, ◌+◌, ◌-◌, ◌<◌, ◌≤◌, Bool, cond, not, ◌&&◌, leb, List, [], ◌∷◌, length, drop, set, refl, ap, ◌∙◌, arith}
use Rattle.std.proofs.lemmas.List.{drop-set}
use Rattle.std.proofs.lemmas.Bool.{and_from, le-leb, lt-ltb}
use Rattle.irv.specs.Sets.{Set, has, with, set_of}
use Rattle.irv.specs.Ballots.{mem}
use Rattle.irv.specs.Walks.{may_join}
use Rattle.irv.proofs.Bits.{listed}
use Rattle.ballot.specs.Sets.{in_range}

pub grown_listing : (slots : List ℕ) (len c : ℕ) → length slots ≡ 16 → len < 16 → drop (16 - (len + 1)) (set slots (15 - len) c) ≡ c ∷ drop (16 - len) slots
grown_listing slots len c wide room =
    let from : 16 - (len + 1) ≡ 15 - len = omega arith in
    let after : 15 - len + 1 ≡ 16 - len = omega arith in
    ap (λ i. drop i (set slots (15 - len) c)) from ∙ drop-set slots (15 - len) c (omega arith) ∙ ap (λ i. c ∷ drop i slots) after

pub grown_set : (R S : Set) (e : List ℕ) (c : ℕ) (b : Bool) → 1 ≤ c → c ≤ 16 → b ≡ in_range c → S ≡ cond b (with c R) R → R ≡ set_of e → S ≡ set_of (c ∷ e)
grown_set R S e c b low high in' after same = after ∙ ap (λ b. cond b (with c R) R) (in' ∙ and_from (leb 1 c) (leb c 16) (le-leb 1 c low) (le-leb c 16 high)) ∙ ap (with c) same

-- the test of the set answers for an ending that has a member
pub may_join_by_set : (w c : ℕ) (e : List ℕ) (R : Set) (b : Bool) → (length e ≡ 0 → ⊥) → 1 ≤ c → R ≡ set_of e → b ≡ has R c → not b ≡ may_join w e c
may_join_by_set w c [] R b some low same is = absurd (some refl)
may_join_by_set w c (d ∷ e) R b some low same is = ap not (is ∙ ap (λ S. has S c) same ∙ listed (d ∷ e) c ∙ ap (λ q. q && mem c (d ∷ e)) (lt-ltb 0 c low))
