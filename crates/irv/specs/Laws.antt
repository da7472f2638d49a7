-- The laws of sets, tallies and orders, as closed statements.
use Rattle.std.specs.Prelude.{◌≡◌, ℕ, ◌≤◌, true, false, ◌&&◌, ◌||◌, List, length, ◌==◌, ◌≢◌, nat_lt}
use Rattle.irv.specs.Sets.{Set, empty, has, with, set_of}
use Rattle.irv.specs.Ballots.{Slate, mem, ranks, BallotGroup, ballots, tally}
use Rattle.irv.specs.Orders.{Order, EachStep}

-- a set is told by its members alone
pub record SetLaws : Type 0 where
  pub none_in_empty : (c : ℕ) → has empty c ≡ false
  pub zero_in_none : (R : Set) → has R 0 ≡ false
  pub one_more : (c d : ℕ) (R : Set) → has (with c R) d ≡ ((nat_lt 0 c && c == d) || has R d)
  pub listed : (cs : List ℕ) (d : ℕ) → has (set_of cs) d ≡ (nat_lt 0 d && mem d cs)
  pub same_members : (R S : Set) → ((c : ℕ) → has R c ≡ has S c) → R ≡ S

pub record TallyLaws : Type 0 where
  pub out_has_none : (s : Slate) (gs : List BallotGroup) (R : Set) (c : ℕ) → has R c ≡ false → tally s gs R c ≡ 0
  pub at_most_all : (s : Slate) (gs : List BallotGroup) (R : Set) (c : ℕ) → tally s gs R c ≤ ballots gs

-- who goes out stands, and somebody else does too
abbrev pub WithAnother : Set → ℕ → Type 0
WithAnother R c = (has R c ≡ true) × ((d : ℕ) × (has R d ≡ true) × (d ≢ c))

pub record OrderLaws : Type 0 where
  pub ranked_at_most_once : (s : Slate) (cs : List ℕ) → ranks s cs ≡ true → length cs ≤ s.candidates
  pub every_member : (s : Slate) (o : List ℕ) → Order s o → length o ≡ s.candidates
  pub steps_stand : (s : Slate) (o : List ℕ) → Order s o → EachStep WithAnother o
