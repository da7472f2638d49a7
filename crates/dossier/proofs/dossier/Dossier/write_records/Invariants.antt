-- The lines of the records before the place are written.
use Rattle.std.proofs.Common.{take, vec_items}
use Rattle.std.specs.List.{flat_map}
use Rattle.audit.specs.Entries.{lines_from}
use Rattle.audit.specs.Pages.{line_bytes}
use Rattle.dossier.proofs.dossier.Dossier.write_records.Given as goal

abbrev pub invariant-loop-place : goal.invariant-loop-place
invariant-loop-place g l = g.S.Sink.took l.initial.sink (flat_map (line_bytes l.self.factor l.self.ballots) (lines_from 1 (take l.place (vec_items l.self.records)))) l.sink
