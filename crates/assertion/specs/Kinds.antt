-- What an assertion of any kind stands for, kind by kind.
use Rattle.std.specs.Prelude.{ℕ, List}
use Rattle.irv.specs.Endings.{Ruling}
use Rattle.irv.specs.Assertions.{Written, neb, nen, maj, neb_value, nen_value, maj_value, neb_rules, nen_rules, maj_rules, members_of}
use Rattle.assertion.specs.declared.assertion.Assertion.{Assertion}
use Rattle.assertion.specs.declared.assertion.Assertion.TheVariants.{Neb, Nen, Majority}

abbrev pub written_kind : Assertion → Written
written_kind (Neb a) = neb a.winner a.loser
written_kind (Nen a) = nen a.winner a.loser (members_of a.standing)
written_kind (Majority a) = maj a.winner a.part a.whole

abbrev pub value_kind : Assertion → List ℕ → ℕ
value_kind (Neb a) = neb_value a.winner a.loser
value_kind (Nen a) = nen_value a.winner a.loser a.standing
value_kind (Majority a) = maj_value a.winner a.part a.whole

abbrev pub top_kind : Assertion → ℕ
top_kind (Neb a) = 2
top_kind (Nen a) = 2
top_kind (Majority a) = a.whole

abbrev pub half_kind : Assertion → ℕ
half_kind (Neb a) = 1
half_kind (Nen a) = 1
half_kind (Majority a) = a.part

abbrev pub rules_kind : Assertion → Ruling
rules_kind (Neb a) = neb_rules a.winner a.loser
rules_kind (Nen a) = nen_rules a.winner a.standing
rules_kind (Majority a) = maj_rules a.winner
