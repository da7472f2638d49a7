-- One record after the other takes the group up.
use Rattle.ballot.specs.Values.{group_value}
use Rattle.dossier.specs.Tallies.{with_group}
use Rattle.dossier.proofs.Tallying.{next_turn, bounded_next, small_next}
use Rattle.dossier.proofs.dossier.tallying.add_group.Goals as goal

pub add_to_margin-requires-clause-bounded : goal.add_to_margin-requires-clause-bounded
add_to_margin-requires-clause-bounded c =
    bounded_next c.requires.0 (group_value c.args.group.now) c.args.records.now c.loop-entered.records c.loop-entered.entered-index _ c.loop-entered-test.true c.loop-entered.invariant c.requires.1

pub add_to_margin-requires-clause-small : goal.add_to_margin-requires-clause-small
add_to_margin-requires-clause-small c =
    small_next c.requires.0 (group_value c.args.group.now) c.args.records.now c.loop-entered.records c.loop-entered.entered-index _ c.loop-entered-test.true c.loop-entered.invariant c.requires.1

pub loop-entered-preserved : goal.loop-entered-preserved
loop-entered-preserved c =
    next_turn (with_group (group_value c.args.group.now)) c.args.records.now c.loop-entered.records c.loop-entered.entered-index c.add_to_margin.new.entered _ c.loop-entered-test.true c.loop-entered.invariant c.add_to_margin.ensures
