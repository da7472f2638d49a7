-- The kind of an assertion, and then its numbers.
use Rattle.std.proofs.Common.{sym, refl, ap}
use Rattle.irv.specs.AssertionForms.{assertion_bytes}
use Rattle.assertion.specs.Kinds.{written_kind}
use Rattle.page.proofs.Putting.{put_on}
use Rattle.page.proofs.assertion_line.write_assertion.Goals as goal

pub returns-in-Neb : goal.returns-in-Neb
returns-in-Neb g c = put_on g.S.Sink.joins c.write_bytes.ensures c.write_numbers.ensures (ap (λ a. assertion_bytes (written_kind a)) (sym c.in-Neb.is))

pub returns-in-Nen : goal.returns-in-Nen
returns-in-Nen g c =
    let joins = g.S.Sink.joins in
    let set = put_on joins c.put.ensures c.write_members.ensures refl in
    put_on joins c.write_bytes-in-Nen.ensures (put_on joins c.write_numbers-in-Nen.ensures set refl) (ap (λ a. assertion_bytes (written_kind a)) (sym c.in-Nen.is))

pub returns-in-Majority : goal.returns-in-Majority
returns-in-Majority g c =
    put_on g.S.Sink.joins c.write_bytes-in-Majority.ensures c.write_numbers-in-Majority.ensures (ap (λ a. assertion_bytes (written_kind a)) (sym c.in-Majority.is))
