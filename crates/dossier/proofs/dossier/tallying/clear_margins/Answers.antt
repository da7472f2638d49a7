-- One record after the other is cleared.
use Rattle.dossier.specs.Tallies.{cleared}
use Rattle.dossier.proofs.Tallying.{next_turn}
use Rattle.dossier.proofs.dossier.tallying.clear_margins.Goals as goal

pub loop-entered-preserved : goal.loop-entered-preserved
loop-entered-preserved c =
    next_turn cleared c.args.records.now c.loop-entered.records c.loop-entered.entered-index c.clear_margin.new.entered _ c.loop-entered-test.true c.loop-entered.invariant c.clear_margin.ensures
