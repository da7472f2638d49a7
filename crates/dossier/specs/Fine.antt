-- What holds of every record of a dossier.
use Rattle.std.specs.Prelude.{Bool, true, not, ◌&&◌, List, [], ◌∷◌, is_some, nat_le, unsigned_abs}
use Rattle.irv.specs.Ballots.{Slate}
use Rattle.irv.specs.Assertions.{judged}
use Rattle.assertion.specs.Kinds.{written_kind}
use Rattle.assertion.specs.Sums.{most_value}
use Rattle.assertion.specs.declared.assertion.Assertion.{Assertion}
use Rattle.audit.specs.declared.records.AssertionRecord.{AssertionRecord}

-- the contest finds no fault with the assertion
unfoldable pub fits : Slate → Assertion → Bool
fits s a = not (is_some (judged s (written_kind a)))

-- its assertion fits, and its margin is one that ballots can have
abbrev pub fine_record : Slate → AssertionRecord → Bool
fine_record s r = fits s r.assertion && nat_le (unsigned_abs r.margin) most_value

abbrev pub all_fine : Slate → List AssertionRecord → Bool
all_fine s [] = true
all_fine s (r ∷ rs) = fine_record s r && all_fine s rs
