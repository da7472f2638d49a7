use Rattle.std.proofs.Common.{refl}
use Rattle.std.proofs.lemmas.Result.{err_from_is_err_and}
use Rattle.ballot_line.proofs.Parts.{line_headless, line_unmarked, line_unranked, line_read}
use Rattle.ballot_line.proofs.line.take_line.Goals as goal

pub returns-in_err-head : goal.returns-in_err-head
returns-in_err-head c =
    let p = err_from_is_err_and c.from_residual.result c.from_residual.ensures.1 in
    rw (p.1, p.2) (line_headless _ _ _ c.in_err-head.ensures)

pub returns-in_err-behind : goal.returns-in_err-behind
returns-in_err-behind c =
    let p = err_from_is_err_and c.from_residual-in_err-behind.result c.from_residual-in_err-behind.ensures.1 in
    let h = c.in_err-behind.ensures in
    rw (p.1, p.2) (line_unmarked _ _ _ _ _ _ c.in_ok-head.ensures h.0 h.1)

pub returns-in_err-row : goal.returns-in_err-row
returns-in_err-row c =
    let p = err_from_is_err_and c.from_residual-in_err-row.result c.from_residual-in_err-row.ensures.1 in
    rw (p.1, p.2) (line_unranked _ _ _ _ _ _ _ c.in_ok-head.ensures c.in_ok-behind.ensures c.in_err-row.ensures)

pub returns : goal.returns
returns c = line_read _ _ _ _ _ _ c.in_ok-head.ensures c.in_ok-behind.ensures c.in_ok-row.ensures tt refl refl
