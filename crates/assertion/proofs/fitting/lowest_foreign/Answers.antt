use Rattle.std.proofs.Common.{ℕ, not, ◌&&◌, option_map, sym, ap, ◌∙◌, rules, arith}
use Rattle.std.proofs.lemmas.Iterator.Adapters.{option_map_id}
use Rattle.std.proofs.lemmas.Iterator.Search.{find_from_yields_List}
use borrow.Author.Tests.{tests}
use Rattle.irv.specs.Sets.{has}
use Rattle.irv.specs.Ballots.{member}
use Rattle.irv.specs.Assertions.{foreign, foreign_in}
use Rattle.irv.proofs.Assertions.{members_are}
use Rattle.ballot.specs.Values.{contest_slate}
use Rattle.assertion.proofs.Counting.{counts_up}
use Rattle.assertion.proofs.Judging.{foreign_found}
use Rattle.assertion.proofs.fitting.lowest_foreign.Goals as goal

pub returns : goal.returns
returns c =
    let s = contest_slate c.args.contest in
    let R = c.args.set in
    let test = λ (x : ℕ). has R x && not (member s x) in
    let found = find_from_yields_List test _ _ c.find.result c.find.ensures.ran (counts_up 1 16 16 (search rules) (search rules) (search rules) (omega arith)) (λ x b q k. search (rules, tests)) in
    ap (option_map foreign) (sym (option_map_id c.find.result) ∙ found) ∙ foreign_found s R 1 16 ∙ ap (foreign_in s) (sym (members_are R))
