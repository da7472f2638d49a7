-- One number more.
use Rattle.std.proofs.Common.{[], ◌∷◌, Some, decimal, sym, refl, ap, ◌∙◌, subst}
use Rattle.std.proofs.lemmas.List.{append-nil, flat_map_more}
use Rattle.page.proofs.Putting.{put_on, put_as}
use Rattle.page.proofs.assertion_line.write_joined.Goals as goal

pub returns-in_default : goal.returns-in_default
returns-in_default g c = ([], (c.next.new.self, (c.args.numbers, refl, c.in_default.ensures.steps)), g.S.Sink.joins.none c.args.sink.now)

pub loop-number-init : goal.loop-number-init
loop-number-init g c = put_as g.S.Sink.joins c.write_number.ensures (ap decimal c.from.ensures ∙ sym (append-nil (decimal c.in-Some.first)))

pub loop-number-preserved : goal.loop-number-preserved
loop-number-preserved g c =
    let joins = g.S.Sink.joins in
    let m = c.args.mark in
    let further = put_on joins c.put.ensures c.write_number-in-loop-number.ensures (ap (λ n. m ∷ decimal n) c.from-in-loop-number.ensures) in
    put_on joins c.loop-number.invariant further (flat_map_more (λ n. m ∷ decimal n) (decimal c.in-Some.first) c.loop-number.yielded c.in-Some-number.number)

pub returns-in-None : goal.returns-in-None
returns-in-None g c =
    let first = subst (g.I.Iterator.next_gives c.args.numbers (Some c.in-Some.first)) (sym c.into_iter-number-iterator.ensures.into_iter_gives) c.in-Some.ensures.steps in
    (c.in-Some.first ∷ c.loop-number.yielded, (c.next-in-loop-number.new.self, (c.loop-number.number-iterator, (c.into_iter-number-iterator.result, first, c.loop-number.yielded_by), c.in-None.ensures.steps)), c.loop-number.invariant)
