-- What a `Cause` and a judgement stand for, and the refusal that a cause leads to.
use Rattle.std.specs.Prelude.{◌≡◌, Some, None, Ok, Err, Option, Result}
use Rattle.irv.specs.Assertions as irv
use Rattle.ballot.specs.declared.refusal.Refusal.{Refusal}
use Rattle.ballot.specs.declared.refusal.Refusal.TheVariants.{AssertionUnfit, FractionOutOfRange}
use Rattle.assertion.specs.declared.cause.Cause.{Cause}
use Rattle.assertion.specs.declared.cause.Cause.TheVariants.{Foreign, Same, Unascending, LacksWinner, LacksLoser, Fraction}

abbrev pub meant : Cause → irv.Cause
meant (Foreign c) = irv.foreign c
meant (Same w) = irv.same w
meant (Unascending c) = irv.unascending c
meant (LacksWinner w) = irv.lacks_winner w
meant (LacksLoser l) = irv.lacks_loser l
meant Fraction = irv.fraction

-- the cause that a judgement found, if there is one
abbrev pub judgement : Result (Unit {0}) Cause → Option irv.Cause
judgement (Ok u) = None
judgement (Err c) = Some (meant c)

abbrev pub cause_refusal : irv.Cause → Refusal
cause_refusal (irv.foreign c) = AssertionUnfit
cause_refusal (irv.same w) = AssertionUnfit
cause_refusal (irv.unascending c) = AssertionUnfit
cause_refusal (irv.lacks_winner w) = AssertionUnfit
cause_refusal (irv.lacks_loser l) = AssertionUnfit
cause_refusal irv.fraction = FractionOutOfRange

-- the judgement found a cause, and e is the refusal that it leads to
abbrev pub Refused : Option irv.Cause → Refusal → Type 0
Refused None e = ⊥
Refused (Some c) e = e ≡ cause_refusal c
