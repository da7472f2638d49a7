-- The parts of the line, one after the other.
use Rattle.std.proofs.Common.{refl}
use Rattle.page.proofs.Putting.{put_on}
use Rattle.page.proofs.writing.number_line.Goals as goal

pub returns : goal.returns
returns g c = put_on g.S.Sink.joins c.write_bytes.ensures (put_on g.S.Sink.joins c.write_number.ensures c.put.ensures refl) refl
