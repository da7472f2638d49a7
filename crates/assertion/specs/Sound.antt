-- The law of an assertion whose set is held as a set, and of an assertion of any kind.
use Rattle.std.specs.Prelude.{◌≡◌, ℕ, None}
use Rattle.std.proofs.Common.{sym, ap, ◌∙◌}
use Rattle.irv.specs.Sets.{Set}
use Rattle.irv.specs.Ballots.{Slate, mem}
use Rattle.irv.specs.Assertions.{nen, nen_value, nen_rules, judged, members_of}
use Rattle.irv.specs.AssertionLaws.{SoundAssorter}
use Rattle.irv.proofs.Assertions.{nen_sound, nen_judged, mem_has, members_are, neb_law, maj_law}
use Rattle.assertion.specs.Kinds.{written_kind, value_kind, top_kind, half_kind, rules_kind}
use Rattle.assertion.specs.declared.assertion.Assertion.{Assertion}
use Rattle.assertion.specs.declared.assertion.Assertion.TheVariants.{Neb, Nen, Majority}

pub nen_set_law : (s : Slate) (w l : ℕ) (R : Set) → judged s (nen w l (members_of R)) ≡ None → SoundAssorter s (nen_value w l R) 2 1 (nen_rules w R)
nen_set_law s w l R h =
    let fine = nen_judged s w l (members_of R) h in
    nen_sound s w l R fine.0 (mem_has R 1 16 l (ap (mem l) (sym (members_are R)) ∙ fine.1.1))

pub any_kind_law : (x : Assertion) (s : Slate) → judged s (written_kind x) ≡ None → SoundAssorter s (value_kind x) (top_kind x) (half_kind x) (rules_kind x)
any_kind_law (Neb a) s h = neb_law s a.winner a.loser h
any_kind_law (Nen a) s h = nen_set_law s a.winner a.loser a.standing h
any_kind_law (Majority a) s h = maj_law s a.winner a.part a.whole h
