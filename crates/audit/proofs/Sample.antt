-- A history in which a plan is answered, so that what is said of plans is said of some.
use Rattle.std.proofs.Common.{◌≡◌, ℕ, List, [], ◌∷◌, length, Some, None, Ok, sym, refl, arith}
use Rattle.std.proofs.lemmas.Bool.{le-leb}
use Rattle.irv.specs.Sets.{empty, has, with, within}
use Rattle.irv.specs.Ballots.{Slate, slate, BallotGroup, Fits}
use Rattle.irv.specs.Assertions.{rules_any}
use Rattle.irv.proofs.Searching.{first_found, endings_tried, finds_first, tries_these}
use Rattle.assertion.specs.declared.assertion.Assertion.{Assertion}
use Rattle.assertion.specs.declared.assertion.Assertion.TheVariants.{Neb}
use Rattle.audit.specs.Entries.{Entry, live_ruling, rules_of_entries}
use Rattle.audit.specs.States.{Opening, opening, State, opened, standing}
use Rattle.audit.specs.Calls.{enters, checks, tallies, accepts, Finds, entered, accepted, tallied, after, page_of, plan_reply}
use Rattle.audit.specs.Laws.{SomePlan}
use Rattle.audit.proofs.Limiting.{limited_steps}

abbrev two : Slate
two = slate 2

-- two candidates, of whom 1 won
abbrev o : Opening
o = opening 2 1 6000

-- 1 does not go out while 2 stands
abbrev a : Assertion
a = Neb (record { winner = 1; loser = 2 })

abbrev es : List Entry
es = record { number = 1; assertion = a } ∷ []

-- three ballots rank 1, and two rank 2
abbrev gs : List BallotGroup
gs = record { ranking = 1 ∷ []; count = 3 } ∷ record { ranking = 2 ∷ []; count = 2 } ∷ []

abbrev s₁ : State
s₁ = after (Some (entered 1 a)) (opened o)

abbrev s₂ : State
s₂ = after (Some (accepted 2)) s₁

abbrev s₃ : State
s₃ = after (Some (tallied gs)) s₂

none_survives : first_found two (live_ruling two es) 1 ≡ None
unfolding empty has with within
none_survives = refl

two_tried : length (endings_tried two (live_ruling two es) 1) ≡ 2
unfolding empty has with within
two_tried = refl

found : Finds two (live_ruling two es) 1 2 (accepts 2)
found = record {
  found = first_found two (live_ruling two es) 1;
  first = finds_first two (live_ruling two es) 1 (omega arith, omega arith) (limited_steps two (rules_any (rules_of_entries es)));
  k = length (endings_tried two (live_ruling two es) 1);
  tried = record { endings = endings_tried two (live_ruling two es) 1; listed = tries_these two (live_ruling two es) 1; count = refl };
  said = (none_survives, (sym two_tried, omega (arith, two_tried)));
}

fit : Fits two gs
fit = record { groups = refl; sum = omega arith }

abbrev bytes : List ℕ
bytes = page_of (standing s₃)

planned : Ok bytes ≡ plan_reply (standing s₃) (length bytes)
planned = sym (rw (le-leb (length bytes) (length bytes) (omega arith)) refl)

pub some_plan : SomePlan
some_plan = record {
  opening = o;
  turns = record { call = tallies two gs; reply = Ok tt } ∷ record { call = checks 2; reply = Ok (accepts 2) } ∷ record { call = enters a; reply = Ok 1 } ∷ [];
  state = s₃;
  room = length bytes;
  bytes = bytes;
  run = (s₂, (s₁, (opened o, (refl, refl), record { shown = tt; reply = refl; after_is = refl }), record { shown = tt; reply = (refl, found); after_is = refl }), record { shown = fit; reply = refl; after_is = refl });
  answer = record { shown = tt; reply = planned; after_is = refl };
}
