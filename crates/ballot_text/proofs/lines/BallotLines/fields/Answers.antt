use Rattle.std.proofs.Common.{◌+◌, ◌<◌, ◌≤◌, length, drop, refl, ap, arith}
use Rattle.std.proofs.lemmas.Result.{MatchResult-at_ok}
use Rattle.irv.specs.Ballots.{slate}
use Rattle.ballot_line.specs.Lines.{ReadsLine}
use Rattle.ballot_text.specs.Texts.{text_bytes}
use Rattle.ballot_text.proofs.Taking.{read, broken, never_err}
use Rattle.ballot_text.proofs.Walking.{passed_none, passed_more, passed_all, fields_found, never_broken, read_within}
use Rattle.ballot_text.proofs.lines.BallotLines.fields.Given as given
use Rattle.ballot_text.proofs.lines.BallotLines.fields.Goals as goal
use Rattle.ballot_text.proofs.lines.BallotLines.fields.Goals.{After-unwrap-read}

module _ (g : given.Over) (c : After-unwrap-read g) where
  inside : c.loop-at.at < length (text_bytes c.args.self.now.text.now)
  inside = omega (arith, ap length c.bytes-text.ensures, c.loop-at-test.true)

  -- the line read, off what is left of the text
  reads : ReadsLine g.F.LineForm.form (drop c.loop-at.at (text_bytes c.args.self.now.text.now)) c.unwrap-read.result
  reads = read _ _ c.loop-at.at _ _ _ c.form.ensures c.bytes-text.ensures (MatchResult-at_ok _ _ _ c.unwrap-read.ensures c.read_line.ensures)

  within : c.loop-at.at + c.unwrap-read.result.length ≤ length (text_bytes c.args.self.now.text.now)
  within = read_within g.F.LineForm.form (text_bytes c.args.self.now.text.now) c.loop-at.at c.unwrap-read.result c.loop-at.invariant.1.0 reads

pub loop-at-init : goal.loop-at-init
loop-at-init g c =
    let s = c.args.self.now in
    (passed_none g.F.LineForm.form (slate s.contest.candidates) (text_bytes s.text.now), (omega arith, omega (arith, c.if-line-lt1.false)))

pub unwrap-read-requires : goal.unwrap-read-requires
unwrap-read-requires g c =
    let s = c.args.self.now in
    never_err _ _ c.read_line.result c.read_line.ensures
    (λ i breaks. never_broken g.F.LineForm.form s.contest.candidates (text_bytes s.text.now) s.ballots s.at s.place c.loop-at.passed c.loop-at.at s.reading c.loop-at.invariant.0 (omega (arith, ap length c.bytes-text.ensures, c.loop-at-test.true)) i
    (broken _ _ c.loop-at.at _ _ i c.form.ensures c.bytes-text.ensures breaks))

pub returns-then-passed-line : goal.returns-then-passed-line
returns-then-passed-line g c =
    let s = c.args.self.now in
    let k = (goal.at.returns-then-passed-line g c).After-unwrap-read in
    fields_found g.F.LineForm.form (slate s.contest.candidates) (text_bytes s.text.now) c.loop-at.passed c.loop-at.at c.loop-at.invariant.0 (inside g k) c.unwrap-read.result (reads g k) c.args.line (omega arith)

pub overflow_add-at : goal.overflow_add-at
overflow_add-at g c = omega (arith, within g (goal.at.overflow_add-at g c).After-unwrap-read, c.args.self.now.text.now.short)

pub loop-at-preserved : goal.loop-at-preserved
loop-at-preserved g c =
    let s = c.args.self.now in
    let k = (goal.at.loop-at-preserved g c).After-unwrap-read in
    (passed_more g.F.LineForm.form (slate s.contest.candidates) (text_bytes s.text.now) c.loop-at.passed c.loop-at.at c.loop-at.invariant.0 (inside g k) c.unwrap-read.result (reads g k), (within g k, omega (arith, c.loop-at.invariant.1.1, c.if-passed-line.false)))

pub returns : goal.returns
returns g c =
    let s = c.args.self.now in
    (λ ls holds some. omega (arith, passed_all g.F.LineForm.form (slate s.contest.candidates) (text_bytes s.text.now) c.loop-at.passed c.loop-at.at c.loop-at.invariant.0 (omega (arith, ap length c.bytes-text.ensures, c.loop-at-test.false)) ls holds, c.loop-at.invariant.1.1), refl)
