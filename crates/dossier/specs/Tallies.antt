-- How the margins of a dossier's records grow, group by group.
use Rattle.std.specs.Prelude.{ℕ, ◌*◌, ◌≤◌, cond, List, ℤ, pos, ◌+ℤ◌, ◌-ℤ◌}
use Rattle.irv.specs.Ballots.{BallotGroup}
use Rattle.assertion.specs.Kinds.{value_kind, half_kind}
use Rattle.assertion.specs.declared.assertion.Assertion.{Assertion}
use Rattle.audit.specs.declared.records.AssertionRecord.{AssertionRecord}

-- what a group adds to the margin of an assertion
abbrev pub gain_of : Assertion → BallotGroup → ℤ
gain_of a g = pos (value_kind a g.ranking * g.count) -ℤ pos (half_kind a * g.count)

-- its values and its half are at most 1000, as those of every assertion that fits a contest
abbrev pub Bounded : Assertion → Type 0
Bounded a = ((r : List ℕ) → value_kind a r ≤ 1000) × (half_kind a ≤ 1000)

abbrev pub with_margin : ℤ → AssertionRecord → AssertionRecord
with_margin m r = record { assertion = r.assertion; live = r.live; margin = m }

-- a live record before any ballot, and with one group more
abbrev pub cleared : AssertionRecord → AssertionRecord
cleared r = with_margin (cond r.live (pos 0) r.margin) r

abbrev pub with_group : BallotGroup → AssertionRecord → AssertionRecord
with_group g r = with_margin (cond r.live (r.margin +ℤ gain_of r.assertion g) r.margin) r
