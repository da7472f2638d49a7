use Rattle.std.proofs.lemmas.Result.{err_from_is_err_and, MatchResult-weaker}
use Rattle.forms.proofs.RankingBreaks.{ranking_breaks}
use Rattle.ballot_line.proofs.Turns.{ranking_row, ranking_unended}
use Rattle.ballot_line.proofs.row.ranking.Goals as goal

pub returns-in_err-rest : goal.returns-in_err-rest
returns-in_err-rest c =
    let p = err_from_is_err_and c.from_residual.result c.from_residual.ensures.1 in
    let h = c.in_err-rest.ensures in
    rw (p.1, p.2) (ranking_unended _ _ _ c.in-Ok.ensures h.0 h.1)

pub returns-in_default : goal.returns-in_default
returns-in_default c = MatchResult-weaker c.numbers.result c.numbers.ensures (λ n. ranking_row _ _ _) (λ rest. ranking_breaks _ _ c.in_default.ensures.1)
