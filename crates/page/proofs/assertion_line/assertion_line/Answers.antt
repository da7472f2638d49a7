-- The parts of the line, one after the other.
use Rattle.std.proofs.Common.{decimal, refl, ap}
use Rattle.page.proofs.Putting.{put_on, put_as}
use Rattle.page.proofs.assertion_line.assertion_line.Goals as goal

pub returns : goal.returns
returns g c =
    let joins = g.S.Sink.joins in
    let kind = put_on joins c.write_assertion.ensures c.put-2.ensures refl in
    let number = put_as joins c.write_number.ensures (ap decimal c.from.ensures) in
    put_on joins c.write_bytes.ensures (put_on joins number (put_on joins c.put.ensures kind refl) refl) refl
