-- The bytes before the place are put.
use Rattle.std.proofs.Common.{take}
use Rattle.page.proofs.writing.write_bytes.Given as goal

abbrev pub invariant-loop-byte : goal.invariant-loop-byte
invariant-loop-byte g l = g.S.Sink.took l.initial.sink (take l.byte-index l.bytes) l.sink
