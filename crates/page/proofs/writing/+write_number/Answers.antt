-- The last digit stands behind the others.
use Rattle.std.proofs.Common.{◌+◌, [], ◌∷◌, sym, ap, ◌∙◌, mod-eq_of_lt, arith}
use Rattle.std.proofs.lemmas.Fmt.{decimal_digit, decimal_step}
use Rattle.page.proofs.Putting.{put_on, put_as, put_from}
use Rattle.page.proofs.writing.+write_number.Goals as goal
use Rattle.page.proofs.writing.+write_number.Goals.{then-number-ge10, else-number-ge10}

pub returns : goal.returns
returns g t c =
    let joins = g.S.Sink.joins in
    elim c.if-number-ge10.branch [
      | then-number-ge10 w ↦ put_on joins w.write_number.ensures (put_from joins w.sink-is c.put.ensures) (sym (decimal_step c.args.number w.if-number-ge10.true (omega arith)))
      | else-number-ge10 w ↦ put_as joins (put_from joins w.sink-is c.put.ensures) (ap (λ d. (48 + d) ∷ []) (mod-eq_of_lt w.if-number-ge10.false) ∙ sym (decimal_digit c.args.number w.if-number-ge10.false))
    ]
