-- One byte more.
use Rattle.std.proofs.Common.{sym}
use Rattle.std.proofs.lemmas.List.{take_more, take_all}
use Rattle.page.proofs.Putting.{put_on, put_as}
use Rattle.page.proofs.writing.write_bytes.Goals as goal

pub loop-byte-init : goal.loop-byte-init
loop-byte-init g c = g.S.Sink.joins.none c.args.sink.now

pub loop-byte-preserved : goal.loop-byte-preserved
loop-byte-preserved g c =
    put_on g.S.Sink.joins c.loop-byte.invariant c.put.ensures (sym (take_more c.args.bytes.now c.loop-byte.byte-index 0 c.loop-byte-test.true))

pub returns : goal.returns
returns g c = put_as g.S.Sink.joins c.loop-byte.invariant (take_all c.loop-byte.byte-index c.args.bytes.now c.loop-byte-test.false)
