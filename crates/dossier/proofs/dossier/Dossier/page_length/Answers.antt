-- The page is short, so that the count is exact.
use Rattle.std.proofs.Common.{◌+◌, ◌^◌, ◌<◌, ◌≤◌, length, vec_items, arith, rules}
use Rattle.irv.specs.Ballots.{slate}
use Rattle.audit.specs.Entries.{lines_from}
use Rattle.page.specs.Counting.{counted_exact}
use Rattle.page.proofs.Lengths.{short_page}
use Rattle.dossier.specs.Dossiers.{page_shown}
use Rattle.dossier.proofs.Paging.{few_lines, short_lines}
use Rattle.dossier.proofs.dossier.Dossier.page_length.Goals as goal

pub returns : goal.returns
returns c =
    let d = c.args.self.now in
    let rs = vec_items d.records in
    let winner : d.winner < 2 ^ 64 = search rules in
    let ballots : d.ballots < 2 ^ 64 = search rules in
    let endings : d.endings < 2 ^ 64 = omega (arith, d.few_endings) in
    let few : length rs ≤ 256 = omega (arith, d.few) in
    let short : length (page_shown d) < 2 ^ 32 = short_page (slate d.contest.candidates) d.winner d.factor d.ballots d.endings (lines_from 1 rs) d.contest.proper.1 winner ballots endings (omega (arith, few_lines 1 rs)) (short_lines (slate d.contest.candidates) 1 rs d.fine (omega arith)) in
    let room : c.new-counted.result.bytes + length (page_shown d) < 2 ^ 64 = omega (arith, c.new-counted.ensures) in
    omega (arith, c.bytes.ensures, c.new-counted.ensures, counted_exact c.write_page.ensures room)
