use Rattle.std.proofs.Common.{rules, arith}
use Rattle.std.proofs.lemmas.Result.{err_from_is_err_and}
use Rattle.ballot_line.specs.Lines.{ReadsLine}
use Rattle.ballot_line.specs.Forms.{form_of}
use Rattle.ballot_line.proofs.Judging.{not_within, wrong_count, wrong_candidate}
use Rattle.ballot_line.proofs.judge.take_group.Goals as goal
use Rattle.ballot_line.proofs.judge.take_group.Goals.{In_ok-line}

-- the line that was read
read : (c : In_ok-line) → ReadsLine (form_of c.args.form) c.args.left.now c.in_ok-line.line
read c = let cases = c.map_err.ensures.cases in let told = c.read_line.ensures in let was = c.in_ok-line.was in search rules

pub returns-in_err-ranking : goal.returns-in_err-ranking
returns-in_err-ranking c =
    let p = err_from_is_err_and c.from_residual-in_err-ranking.result c.from_residual-in_err-ranking.ensures.1 in
    let h = c.in_err-ranking.ensures in
    rw (p.1, p.2) (wrong_candidate _ _ _ _ c.in_ok-line.line _ (read (goal.at.returns-in_err-ranking c).In_ok-line) (search rules) (search rules))

pub returns-then-not-contains : goal.returns-then-not-contains
returns-then-not-contains c =
    let e = rw (c.new.ensures.start, c.new.ensures.end, c.new.ensures.exhausted, c.saturating_sub.ensures) at c.if-not-contains.ensures.value in
    wrong_count _ _ _ _ c.in_ok-line.line (read (goal.at.returns-then-not-contains c).In_ok-line) (λ counts. not_within _ _ _ e counts.0 (omega (arith, counts.1)))
