use Rattle.std.proofs.Common.{◌≡◌, ◌+◌, ◌++◌, ◌∷◌, [], length, refl, sym, ap, ◌∙◌, subst, arith}
use Rattle.std.proofs.lemmas.List.{length_push}
use Rattle.std.proofs.lemmas.Result.{err_from_is_err_and, MatchResult-at_ok}
use Rattle.fixed_list.specs.Lists.{listed}
use Rattle.ballot_line.specs.Rows.{TakesNumbers}
use Rattle.ballot_line.proofs.Turns.{RowSofar, row_missing, row_breaks, row_done, row_again}
use Rattle.ballot_line.proofs.row.numbers.Goals as goal
use Rattle.ballot_line.proofs.row.numbers.Goals.{After-unwrap}

-- the number goes behind the others
pushed : (c : After-unwrap) → listed c.push.new.self ≡ listed c.loop-next.value ++ (c.in_ok-next.next.value ∷ [])
pushed c = (MatchResult-at_ok _ _ _ c.unwrap.ensures c.push.ensures).1

length_pushed : (c : After-unwrap) → length (listed c.push.new.self) ≡ length (listed c.loop-next.value) + 1
length_pushed c = ap length (pushed c) ∙ length_push (listed c.loop-next.value) c.in_ok-next.next.value

pub returns-in_err-next : goal.returns-in_err-next
returns-in_err-next c =
    let p = err_from_is_err_and c.from_residual.result c.from_residual.ensures.1 in
    rw (p.1, p.2) (row_missing _ _ _ c.requires.marks _ _ _ c.loop-next.invariant _ c.in_err-next.ensures)

pub returns-in-Ok : goal.returns-in-Ok
returns-in-Ok c =
    subst (λ ns. TakesNumbers c.args.joint c.args.end c.args.limit c.args.left.now ns c.in-Ok.rest.now) (sym (pushed (goal.at.returns-in-Ok c).After-unwrap)) (row_done _ _ _ c.requires.marks _ _ _ c.loop-next.invariant _ _ _ c.in_ok-next.ensures c.in-Ok.ensures)

pub returns-then-full : goal.returns-then-full
returns-then-full c =
    row_breaks _ _ _ c.requires.marks _ _ _ c.loop-next.invariant _ _ _ c.in_ok-next.ensures refl c.in_default.ensures.1 (λ more. absurd (omega (arith, more, c.len.ensures, c.if-full.true, length_pushed (goal.at.returns-then-full c).After-unwrap)))

pub returns-in_err-rest : goal.returns-in_err-rest
returns-in_err-rest c =
    let p = err_from_is_err_and c.from_residual-in_err-rest.result c.from_residual-in_err-rest.ensures.1 in
    let h = c.in_err-rest.ensures in
    rw (p.1, p.2) (row_breaks _ _ _ c.requires.marks _ _ _ c.loop-next.invariant _ _ _ c.in_ok-next.ensures h.0 c.in_default.ensures.1 (λ more. h.1))

pub loop-next-preserved : goal.loop-next-preserved
loop-next-preserved c =
    subst (λ ns. RowSofar c.args.joint c.args.end c.args.limit c.args.left.now ns c.in_ok-rest.rest.now) (sym (pushed (goal.at.loop-next-preserved c).After-unwrap)) (row_again _ _ _ c.requires.marks _ _ _ c.loop-next.invariant _ _ _ c.in_ok-next.ensures c.in_ok-rest.ensures (λ full. c.if-full.false (c.len.ensures ∙ length_pushed (goal.at.loop-next-preserved c).After-unwrap ∙ full)))
