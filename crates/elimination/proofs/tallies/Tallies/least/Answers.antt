use Rattle.std.proofs.Common.{refl, rules, tests}
use Rattle.std.proofs.lemmas.Iterator.{YieldsList-from_range}
use Rattle.std.proofs.lemmas.Iterator.Consumers.{YieldsList-from_filter}
use Rattle.irv.specs.Sets.{has}
use Rattle.irv.specs.Tables.{shown}
use Rattle.elimination.proofs.Picking.{least_picked}
use Rattle.elimination.proofs.tallies.Tallies.least.Goals as goal

pub returns : goal.returns
returns c =
    least_picked c.args.standing.now (shown c.args.self.now.counts) _ _ (λ x k q called. search (rules, tests)) _ c.min_by_key.result c.min_by_key.ensures.ran
    (YieldsList-from_filter _ (has c.args.standing.now) (YieldsList-from_range 1 17 16 (cc) refl) c.filter.ensures.closure (λ x b q k. search (rules, tests)))
