-- What an ending stands for.
use Rattle.std.specs.Prelude.{ℕ, ◌-◌, List, drop}
use Rattle.search.specs.declared.ending.Ending.{Ending}

-- its members, first out first
abbrev pub listing : Ending → List ℕ
listing e = drop (16 - e.len) e.slots
