-- How large the sum of an assertion's values can get.
use Rattle.std.specs.Prelude.{ℕ, ◌*◌}
use Rattle.irv.specs.Ballots.{most_ballots}

-- the largest top on each of the most ballots
abbrev pub most_value : ℕ
most_value = 1000 * most_ballots
