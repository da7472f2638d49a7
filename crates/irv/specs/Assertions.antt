-- Assertions: what each kind is worth on a ballot, which steps it rules out, its margin on the ballots, and when it fits a contest.
use Rattle.std.specs.Prelude.{ℕ, zero, suc, ◌+◌, ◌*◌, Bool, false, cond, not, ◌&&◌, ◌||◌, List, [], ◌∷◌, ℤ, pos, ◌-ℤ◌, ◌<ℤ◌, Some, None, sum_by, Option, ◌==◌, nat_le, nat_lt}
use Rattle.std.specs.List.{AllByRecursion}
use Rattle.irv.specs.Sets.{Set, has, set_of}
use Rattle.irv.specs.Ballots.{Slate, member, mem, BallotGroup, ballots, reading, belongs}
use Rattle.irv.specs.Endings.{Ruling, Contradicted}

-- an assertion as it is written. neb w l: w does not go out while l stands. nen w l set: w has more ballots than l while
-- exactly the set stands. maj w a b: w is first on more than a in b of the ballots that rank anybody
pub data Written : Type 0 where
  neb : ℕ → ℕ → Written
  nen : ℕ → ℕ → List ℕ → Written
  maj : ℕ → ℕ → ℕ → Written

-- w is ranked first
abbrev pub ranked_first : ℕ → List ℕ → Bool
ranked_first w [] = false
ranked_first w (c ∷ cs) = c == w

-- w is ranked, and l is not ranked before it
abbrev pub ahead : ℕ → ℕ → List ℕ → Bool
ahead w l [] = false
ahead w l (c ∷ cs) = not (c == l) && (c == w || ahead w l cs)

-- what an assertion is worth on a ranking
abbrev pub neb_value : ℕ → ℕ → List ℕ → ℕ
neb_value w l r = cond (ranked_first w r) 2 (cond (mem l r && not (ahead w l r)) 0 1)

abbrev pub nen_value : ℕ → ℕ → Set → List ℕ → ℕ
nen_value w l R r = cond (belongs R r w) 2 (cond (belongs R r l) 0 1)

abbrev pub maj_value : ℕ → ℕ → ℕ → List ℕ → ℕ
maj_value w a b [] = a
maj_value w a b (c ∷ cs) = cond (c == w) b 0

-- which steps an assertion rules out: that w goes out of a set with l, of exactly this set, of any set
abbrev pub neb_rules : ℕ → ℕ → Ruling
neb_rules w l R c = c == w && has R l

abbrev pub nen_rules : ℕ → Set → Ruling
nen_rules w S R c = c == w && R == S

abbrev pub maj_rules : ℕ → Ruling
maj_rules w R c = c == w

-- the same for what is written, with the highest value and the half that the sum has to pass for each ballot
abbrev pub value_of : Written → List ℕ → ℕ
value_of (neb w l) = neb_value w l
value_of (nen w l set) = nen_value w l (set_of set)
value_of (maj w a b) = maj_value w a b

abbrev pub top_of : Written → ℕ
top_of (neb w l) = 2
top_of (nen w l set) = 2
top_of (maj w a b) = b

abbrev pub half_of : Written → ℕ
half_of (neb w l) = 1
half_of (nen w l set) = 1
half_of (maj w a b) = a

abbrev pub rules_of : Written → Ruling
rules_of (neb w l) = neb_rules w l
rules_of (nen w l set) = nen_rules w (set_of set)
rules_of (maj w a b) = maj_rules w

-- the values of all ballots together
abbrev pub value_sum : (List ℕ → ℕ) → Slate → List BallotGroup → ℕ
value_sum value s gs = sum_by (λ g. value (reading s g) * g.count) gs

-- by how much the sum passes the half for each ballot
abbrev pub margin : (List ℕ → ℕ) → ℕ → Slate → List BallotGroup → ℤ
margin value half s gs = pos (value_sum value s gs) -ℤ pos (half * ballots gs)

abbrev pub Holds : (List ℕ → ℕ) → ℕ → Slate → List BallotGroup → Type 0
Holds value half s gs = pos 0 <ℤ margin value half s gs

-- all of a list hold on the groups: each is a value and a half
abbrev pub AllHold : Slate → List BallotGroup → List ((List ℕ → ℕ) × ℕ) → Type 0
AllHold s gs xs = AllByRecursion (λ x. Holds x.0 x.1 s gs) xs

-- what a list of assertions rules out together: what any of them does
abbrev pub rules_any : List Ruling → Ruling
rules_any [] R c = false
rules_any (r ∷ rs) R c = r R c || rules_any rs R c

-- some assertion of the list rules out a step of the order
abbrev pub ContradictedBy : List Ruling → List ℕ → Type 0
ContradictedBy rs o = Contradicted (rules_any rs) o

-- why an assertion does not fit a contest
pub data Cause : Type 0 where
  foreign : ℕ → Cause
  same : ℕ → Cause
  unascending : ℕ → Cause
  lacks_winner : ℕ → Cause
  lacks_loser : ℕ → Cause
  fraction : Cause

-- the first of the numbers that is no candidate
abbrev pub foreign_in : Slate → List ℕ → Option Cause
foreign_in s [] = None
foreign_in s (c ∷ cs) = cond (member s c) (foreign_in s cs) (Some (foreign c))

-- the first of the numbers that is not above the one before it
abbrev pub unascending_in : List ℕ → Option Cause
unascending_in [] = None
unascending_in (c ∷ []) = None
unascending_in (c ∷ d ∷ cs) = cond (nat_lt c d) (unascending_in (d ∷ cs)) (Some (unascending d))

abbrev pub unless : Bool → Cause → Option Cause
unless fine cause = cond fine None (Some cause)

abbrev pub fraction_fits : ℕ → ℕ → Bool
fraction_fits a b = nat_le 2 b && (nat_le b 1000 && (nat_lt a b && nat_le b (2 * a)))

-- the first that there is
abbrev pub first_of : List (Option Cause) → Option Cause
first_of [] = None
first_of (None ∷ xs) = first_of xs
first_of (Some x ∷ xs) = Some x

-- the first cause, if any, why an assertion does not fit a contest
abbrev pub judged : Slate → Written → Option Cause
judged s (neb w l) = first_of (foreign_in s (w ∷ l ∷ []) ∷ unless (not (w == l)) (same w) ∷ [])
judged s (nen w l set) =
    first_of (foreign_in s (w ∷ l ∷ set) ∷ unless (not (w == l)) (same w) ∷ unascending_in set ∷ unless (mem w set) (lacks_winner w) ∷ unless (mem l set) (lacks_loser l) ∷ [])
judged s (maj w a b) = first_of (foreign_in s (w ∷ []) ∷ unless (fraction_fits a b) fraction ∷ [])

-- the number of the refusal that a cause leads to
abbrev pub cause_number : Cause → ℕ
cause_number (foreign c) = 4
cause_number (same w) = 4
cause_number (unascending c) = 4
cause_number (lacks_winner w) = 4
cause_number (lacks_loser l) = 4
cause_number fraction = 5

-- the members of R among the n numbers from k on, ascending
abbrev pub members_from : Set → ℕ → ℕ → List ℕ
members_from R k zero = []
members_from R k (suc n) = cond (has R k) (k ∷ members_from R (k + 1) n) (members_from R (k + 1) n)

-- the members of a set of candidates up to 16, ascending: how the set is written
unfoldable pub members_of : Set → List ℕ
members_of R = members_from R 1 16
