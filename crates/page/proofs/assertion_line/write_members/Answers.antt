-- What the iterator hands out are the members.
use Rattle.std.proofs.Common.{sym, ap, ◌∙◌, rules, arith}
use Rattle.std.proofs.lemmas.Iterator.{YieldsList-from_range}
use Rattle.std.proofs.lemmas.Iterator.Consumers.{YieldsList-from_filter}
use borrow.Author.Tests.{tests}
use Rattle.irv.specs.AssertionForms.{numbers_by}
use Rattle.irv.specs.Sets.{has}
use Rattle.irv.proofs.Assertions.{members_are}
use Rattle.page.proofs.Listing.{drained, members_kept}
use Rattle.page.proofs.Putting.{put_as}
use Rattle.page.proofs.assertion_line.write_members.Goals as goal

pub returns : goal.returns
returns g c =
    let R = c.args.set.now in
    let put = c.write_joined.ensures in
    let all = drained put.0 put.1 (YieldsList-from_filter _ (has R) (YieldsList-from_range 1 17 16 (search rules) (omega arith)) c.filter.ensures.closure (λ x b q k. search (rules, tests))) in
    put_as g.S.Sink.joins put.2 (ap (numbers_by 43) (all ∙ members_kept R 1 16 ∙ sym (members_are R)))
