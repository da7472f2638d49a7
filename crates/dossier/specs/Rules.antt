-- The live assertions of some records as a rule.
use Rattle.std.specs.Prelude.{ℕ, List}
use Rattle.irv.specs.Ballots.{slate, Proper}
use Rattle.irv.specs.Endings.{Ruling}
use Rattle.irv.specs.Assertions.{rules_any}
use Rattle.search.specs.Rules.{SoundRule}
use Rattle.audit.specs.Entries.{lines_from, entries, rules_of_entries, live_ruling}
use Rattle.audit.specs.declared.records.AssertionRecord.{AssertionRecord}
use Rattle.audit.proofs.Limiting.{limited_steps}

abbrev pub records_ruling : ℕ → List AssertionRecord → Ruling
records_ruling n rs = live_ruling (slate n) (entries (lines_from 1 rs))

pub records_sound : (n : ℕ) (rs : List AssertionRecord) → Proper (slate n) → SoundRule (slate n) (records_ruling n rs)
records_sound n rs proper = record { proper = proper; only_steps = limited_steps (slate n) (rules_any (rules_of_entries (entries (lines_from 1 rs)))) }
