-- The refusals: each cause has a number, and two have a value.
use Rattle.std.specs.Prelude.{ℕ, Some, None, Option}
use Rattle.ballot.specs.declared.refusal.Refusal.{Refusal}
use Rattle.ballot.specs.declared.refusal.Refusal.TheVariants.{CandidatesOutOfRange, WinnerNotCandidate, FactorOutOfRange, AssertionUnfit, FractionOutOfRange, DossierFull, NumberNotLive, Malformed, CandidateForeignOrRepeated, CountOutOfRange, LimitOutOfRange, OtherContest, NotChecked, NotTallied, AssertionDoesNotHold, BufferTooShort, InputTooLong, PlaceOutOfRange, PositionOut, TooManyOut, NotThisBooksSlip, DrawsExhausted}

abbrev pub refusal_number : Refusal → ℕ
refusal_number CandidatesOutOfRange = 1
refusal_number WinnerNotCandidate = 2
refusal_number FactorOutOfRange = 3
refusal_number AssertionUnfit = 4
refusal_number FractionOutOfRange = 5
refusal_number DossierFull = 6
refusal_number NumberNotLive = 7
refusal_number Malformed = 8
refusal_number CandidateForeignOrRepeated = 9
refusal_number CountOutOfRange = 10
refusal_number LimitOutOfRange = 11
refusal_number OtherContest = 12
refusal_number NotChecked = 13
refusal_number NotTallied = 14
refusal_number (AssertionDoesNotHold n) = 15
refusal_number (BufferTooShort needed) = 16
refusal_number InputTooLong = 16
refusal_number PlaceOutOfRange = 17
refusal_number PositionOut = 18
refusal_number TooManyOut = 19
refusal_number NotThisBooksSlip = 20
refusal_number DrawsExhausted = 21

-- the longest input text
abbrev pub input_limit : ℕ
input_limit = 65536

abbrev pub refusal_value : Refusal → Option ℕ
refusal_value CandidatesOutOfRange = None
refusal_value WinnerNotCandidate = None
refusal_value FactorOutOfRange = None
refusal_value AssertionUnfit = None
refusal_value FractionOutOfRange = None
refusal_value DossierFull = None
refusal_value NumberNotLive = None
refusal_value Malformed = None
refusal_value CandidateForeignOrRepeated = None
refusal_value CountOutOfRange = None
refusal_value LimitOutOfRange = None
refusal_value OtherContest = None
refusal_value NotChecked = None
refusal_value NotTallied = None
refusal_value (AssertionDoesNotHold n) = Some n
refusal_value (BufferTooShort needed) = Some needed
refusal_value InputTooLong = Some input_limit
refusal_value PlaceOutOfRange = None
refusal_value PositionOut = None
refusal_value TooManyOut = None
refusal_value NotThisBooksSlip = None
refusal_value DrawsExhausted = None
