-- Values and half are at most 1000, so that no product is large.
use Rattle.std.proofs.Common.{arith}
use Rattle.ballot.specs.Values.{ranked}
use Rattle.assertion.specs.Kinds.{value_kind, half_kind}
use Rattle.dossier.proofs.Tallying.{gain_fits, gain_told}
use Rattle.dossier.proofs.dossier.tallying.gain.Goals as goal

pub overflow_mul-result : goal.overflow_mul-result
overflow_mul-result c =
    let r = ranked c.args.group.now.ranking in
    gain_fits c.from.result c.from-2.result c.from-3.result (value_kind c.args.assertion.now r) (half_kind c.args.assertion.now) c.args.group.now.count (cc) (cc) (cc) (c.requires.0 r) c.requires.1 (omega (arith, c.count.ensures, c.count.type_inv))

pub returns : goal.returns
returns c =
    let r = ranked c.args.group.now.ranking in
    gain_told c.from.result c.from-2.result c.from-3.result (value_kind c.args.assertion.now r) (half_kind c.args.assertion.now) c.args.group.now.count (cc) (cc) (cc) (c.requires.0 r) c.requires.1 (omega (arith, c.count.ensures, c.count.type_inv))
