use Rattle.std.proofs.Common.{◌≡◌, ◌<◌, length, rules, sym, subst, arith}
use Rattle.std.proofs.lemmas.List.{take_rest}
use Rattle.std.proofs.lemmas.Result.{err_from_is_err_and, MatchResult-at_err}
use Rattle.ballot.specs.Values.{contest_slate}
use Rattle.ballot_line.specs.Faults.{TakesGroup}
use Rattle.ballot_line.specs.Forms.{form_of}
use Rattle.ballot_line.proofs.Mapping.{mapped_err}
use Rattle.ballot_text.specs.Openings.{FaultyText}
use Rattle.ballot_text.specs.Texts.{text_bytes}
use Rattle.ballot_text.proofs.Opening.{line_within, read_more, read_faulty}
use Rattle.ballot_text.proofs.lines.methods.read_all.Goals as goal

pub returns-in_err-read : goal.returns-in_err-read
returns-in_err-read c =
    let p = err_from_is_err_and c.from_residual.result c.from_residual.ensures.1 in
    let some : 0 < length c.loop-left.left.now = search rules in
    let told =
    mapped_err
    (λ e d is fault.
    let same : d ≡ record { cause = e.cause; line = c.loop-left.line; byte = e.byte } = search rules in
    subst (FaultyText (form_of c.args.form) (contest_slate c.args.contest) (text_bytes c.args.text.now)) (sym same) (read_faulty _ _ _ _ _ _ c.loop-left.invariant e some fault))
    _ c.take_group.result c.map_err.result c.map_err.ensures.cases c.take_group.ensures in
    rw (p.1, p.2) (MatchResult-at_err _ _ _ c.in_err-read.was told)

pub overflow_add-line : goal.overflow_add-line
overflow_add-line c =
    let some : 0 < length c.loop-left.left.now = search rules in
    omega (arith, line_within _ _ _ _ _ _ c.loop-left.invariant, c.args.text.now.short)

pub loop-left-preserved : goal.loop-left-preserved
loop-left-preserved c =
    let took : TakesGroup (form_of c.args.form) (contest_slate c.args.contest) c.loop-left.sum c.loop-left.left.now c.in_ok-read.read = search rules in
    rw (c.count-sum.ensures, take_rest c.loop-left.left.now c.in_ok-read.read.length) (read_more _ _ _ _ _ _ c.loop-left.invariant c.in_ok-read.read took)
