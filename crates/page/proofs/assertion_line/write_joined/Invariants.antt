-- The numbers so far are put.
use Rattle.std.proofs.Common.{◌∷◌}
use Rattle.irv.specs.AssertionForms.{numbers_by}
use Rattle.page.proofs.assertion_line.write_joined.Given as goal

abbrev pub invariant-loop-number : goal.invariant-loop-number
invariant-loop-number g l = g.S.Sink.took l.fn.sink (numbers_by l.mark (l.first ∷ l.yielded)) l.sink
