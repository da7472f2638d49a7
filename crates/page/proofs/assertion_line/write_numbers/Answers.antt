-- What the iterator hands out are the numbers.
use Rattle.std.proofs.Common.{ap}
use Rattle.std.proofs.lemmas.Iterator.{YieldsList-from_slice}
use Rattle.std.proofs.lemmas.Iterator.Consumers.{YieldsList-from_copied}
use Rattle.irv.specs.AssertionForms.{comma, numbers_by}
use Rattle.page.proofs.Listing.{drained}
use Rattle.page.proofs.Putting.{put_as}
use Rattle.page.proofs.assertion_line.write_numbers.Goals as goal

pub returns : goal.returns
returns g c =
    let put = c.write_joined.ensures in
    let all = drained put.0 put.1 (YieldsList-from_copied (YieldsList-from_slice c.args.numbers.now (cc))) in
    put_as g.S.Sink.joins put.2 (ap (numbers_by comma) all)
