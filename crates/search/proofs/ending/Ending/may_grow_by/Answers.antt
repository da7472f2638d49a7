-- The set of an ending that has a member tells who is new.
use Rattle.std.proofs.Common.{◌≡◌, length, arith}
use Rattle.std.proofs.lemmas.List.{length-drop}
use Rattle.search.specs.EndingValues.{listing}
use Rattle.search.proofs.Growing.{may_join_by_set}
use Rattle.search.proofs.ending.Ending.may_grow_by.Goals as goal

pub returns-else-self-eq0 : goal.returns-else-self-eq0
returns-else-self-eq0 c =
    let e = c.args.self.now in
    let many : length (listing e) ≡ e.len = simp length-drop (omega arith) in
    may_join_by_set c.args.winner c.args.candidate (listing e) e.set c.has.result (λ none. c.if-self-eq0.false (omega arith)) c.requires e.same c.has.ensures
