-- What each turn keeps true, and why the recursion ends.
use Rattle.std.proofs.Common.{◌-◌, length}
use Rattle.search.specs.EndingValues.{listing}
use Rattle.search.proofs.Turning.{Onward}
use Rattle.search.proofs.searching.Search.+below.Given as goal

-- the candidates from this one on are left
abbrev pub invariant-loop-candidate : goal.invariant-loop-candidate
invariant-loop-candidate g l =
    Onward g.R.Rule.contest g.R.Rule.ruling g.R.Rule.kept l.initial.self (listing l.ending) l.candidate l.self

-- the members that are left
abbrev pub decreases-below : goal.decreases-below
decreases-below g l = 16 - length (listing l.ending)
