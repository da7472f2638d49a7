-- Rules that rule out steps, endings of orders, and the search for the first order that a rule does not contradict.
use Rattle.std.specs.Prelude.{◌≡◌, ℕ, ◌<◌, Bool, true, false, ◌⊎◌, List, [], ◌∷◌, reverse, length, IfSome, None, Option, MatchOption, ◌≢◌}
use Rattle.std.specs.List.{ContainsAt}
use Rattle.irv.specs.Sets.{Set, has, set_of}
use Rattle.irv.specs.Ballots.{Slate, member, ranks}
use Rattle.irv.specs.Orders.{Order, EachStep}

-- which steps are ruled out: that c goes out of the standing set R
abbrev pub Ruling : Type 0
Ruling = Set → ℕ → Bool

-- a step of the contest: c goes out of a set of members that holds c and another
pub record IsStep (s : Slate) (R : Set) (c : ℕ) : Type 0 where
  pub stands : has R c ≡ true
  pub other : (d : ℕ) × (has R d ≡ true) × (d ≢ c)
  pub members : (d : ℕ) → has R d ≡ true → member s d ≡ true

-- a rule rules out steps of its contest and nothing else
abbrev pub OnlySteps : Slate → Ruling → Type 0
OnlySteps s r = (R : Set) (c : ℕ) → r R c ≡ true → IsStep s R c

-- none of the order's steps is ruled out; an order that has a ruled-out step is contradicted
abbrev pub Stands : Ruling → List ℕ → Type 0
Stands r o = EachStep (λ R c. r R c ≡ false) o

abbrev pub Contradicted : Ruling → List ℕ → Type 0
Contradicted r o = Stands r o → ⊥

-- whom an order elects: its last
abbrev pub elected : List ℕ → ℕ
elected [] = 0
elected (c ∷ []) = c
elected (c ∷ d ∷ e) = elected (d ∷ e)

-- an order that elects another than the winner
pub record Alternative (s : Slate) (winner : ℕ) (o : List ℕ) : Type 0 where
  pub order : Order s o
  pub another : elected o ≡ winner → ⊥

-- which list comes first, member by member; a shorter one comes before those that it begins
abbrev pub Earlier : List ℕ → List ℕ → Type 0
Earlier xs [] = ⊥
Earlier [] (y ∷ ys) = Unit {0}
Earlier (x ∷ xs) (y ∷ ys) = (x < y) ⊎ ((x ≡ y) × Earlier xs ys)

-- orders and endings are compared as they are written backwards: the last, then the one who went out before, and so on
abbrev pub Before : List ℕ → List ℕ → Type 0
Before e f = Earlier (reverse e) (reverse f)

-- the survivor: of the orders that elect another and are not contradicted, the first when written backwards
pub record Survivor (s : Slate) (r : Ruling) (winner : ℕ) (o : List ℕ) : Type 0 where
  pub alternative : Alternative s winner o
  pub stands : Stands r o
  pub first : (p : List ℕ) → Alternative s winner p → Stands r p → Before p o → ⊥

-- the survivor, or that there is none: each order that elects another is contradicted
abbrev pub FirstStanding : Slate → Ruling → ℕ → Option (List ℕ) → Type 0
FirstStanding s r winner found =
    MatchOption found ((p : List ℕ) → Alternative s winner p → Contradicted r p) (λ o. Survivor s r winner o)

-- An ending is the last part of an order, kept first out first like an order: its head is the member that was
-- added last when it is written backwards.
-- what keeps an ending with this set of members and this newest member from going on; for one member nothing does,
-- since a rule rules out no step of a set of one
abbrev pub blocked : Ruling → Set → ℕ → Bool
blocked r R c = r R c

-- no part of the ending, from one member up to all, is blocked
abbrev pub IsOpen : Ruling → List ℕ → Type 0
IsOpen r [] = Unit {0}
IsOpen r (c ∷ e) = (blocked r (set_of (c ∷ e)) c ≡ false) × IsOpen r e

-- an ending of different members, at least one, that does not end with the winner, and was open before its newest
-- member was added: the search tries it
abbrev pub Tried : Slate → Ruling → ℕ → List ℕ → Type 0
Tried s r winner [] = ⊥
Tried s r winner (c ∷ e) = (ranks s (c ∷ e) ≡ true) × ((elected (c ∷ e) ≢ winner) × IsOpen r e)

-- e does not come after the survivor, if there is one
abbrev pub NotAfter : Option (List ℕ) → List ℕ → Type 0
NotAfter found e = IfSome found (λ o. Before o e → ⊥)

-- each comes before the next
abbrev pub Ascending : List (List ℕ) → Type 0
Ascending [] = Unit {0}
Ascending (e ∷ []) = Unit {0}
Ascending (e ∷ f ∷ es) = Before e f × Ascending (f ∷ es)

-- an ascending list of exactly the tried endings up to and with the survivor, or of all where there is none
pub record TriedEndings (s : Slate) (r : Ruling) (winner : ℕ) (found : Option (List ℕ)) (es : List (List ℕ)) : Type 0 where
  pub ascending : Ascending es
  pub each_tried : (e : List ℕ) → ContainsAt es e → Tried s r winner e × NotAfter found e
  pub all_tried : (e : List ℕ) → Tried s r winner e → NotAfter found e → ContainsAt es e

-- how many endings are tried
pub record EndingsTried (s : Slate) (r : Ruling) (winner : ℕ) (found : Option (List ℕ)) (k : ℕ) : Type 0 where
  pub endings : List (List ℕ)
  pub listed : TriedEndings s r winner found endings
  pub count : k ≡ length endings

-- the laws of the search, over every rule that rules out steps alone
pub record SearchLaws : Type 0 where
  pub one_survivor : (s : Slate) (r : Ruling) (winner : ℕ) (found other : Option (List ℕ)) → FirstStanding s r winner found → FirstStanding s r winner other → found ≡ other
  pub one_count : (s : Slate) (r : Ruling) (winner : ℕ) (found : Option (List ℕ)) (k l : ℕ) → EndingsTried s r winner found k → EndingsTried s r winner found l → k ≡ l
  pub open_as_standing : (s : Slate) (r : Ruling) (o : List ℕ) → OnlySteps s r → Order s o → (IsOpen r o → Stands r o) × (Stands r o → IsOpen r o)
  pub none_as_contradicted : (s : Slate) (r : Ruling) (winner : ℕ) → (FirstStanding s r winner None → (p : List ℕ) → Alternative s winner p → Contradicted r p) × (((p : List ℕ) → Alternative s winner p → Contradicted r p) → FirstStanding s r winner None)
