use Rattle.std.proofs.Common.{length, refl, ap, arith}
use Rattle.std.proofs.lemmas.Result.{MatchResult-at_ok}
use Rattle.ballot_text.specs.Texts.{text_bytes}
use Rattle.ballot_text.proofs.Placing.{all_out, never_faulty, next_out, next_reading, next_within, place_bound}
use Rattle.ballot_text.proofs.Taking.{taken, faulty, never_err}
use Rattle.ballot_text.proofs.lines.methods.BallotLinesBallotSource.next.Goals as goal

pub returns-then-at-text-clause-cases : goal.returns-then-at-text-clause-cases
returns-then-at-text-clause-cases g c =
    let s = c.args.self.now in
    (all_out g.F.LineForm.form s.contest.candidates (text_bytes s.text.now) s.ballots s.at s.place s.reading (omega (arith, ap length c.bytes-text.ensures, c.if-at-text.true)), refl)

pub unwrap-read-requires : goal.unwrap-read-requires
unwrap-read-requires g c =
    let s = c.args.self.now in
    never_err _ _ c.take_group.result c.take_group.ensures (λ e fault. never_faulty g.F.LineForm.form s.contest.candidates (text_bytes s.text.now) s.ballots s.at s.place s.reading (omega (arith, ap length c.bytes-text.ensures, c.if-at-text.false)) e
    (faulty _ _ _ _ s.at _ _ e c.form.ensures c.bytes-text.ensures fault))

pub overflow_add-self : goal.overflow_add-self
overflow_add-self g c =
    let s = c.args.self.now in
    omega (arith, next_within g.F.LineForm.form s.contest.candidates (text_bytes s.text.now) s.ballots s.at s.place s.reading (omega (arith, ap length c.bytes-text.ensures, c.if-at-text.false)) c.unwrap-read.result (taken _ _ _ _ s.at _ _ _ c.form.ensures c.bytes-text.ensures (MatchResult-at_ok _ _ _ c.unwrap-read.ensures c.take_group.ensures)), s.text.now.short)

pub overflow_add-self-2 : goal.overflow_add-self-2
overflow_add-self-2 g c =
    let s = c.args.self.now in
    omega (arith, place_bound g.F.LineForm.form s.contest.candidates (text_bytes s.text.now) s.ballots s.at s.place s.reading, s.text.now.short, ap length c.bytes-text.ensures, c.if-at-text.false)

pub invariant_of-self : goal.invariant_of-self
invariant_of-self g c =
    let s = c.args.self.now in
    record {
      reading = next_reading g.F.LineForm.form s.contest.candidates (text_bytes s.text.now) s.ballots s.at s.place s.reading (omega (arith, ap length c.bytes-text.ensures, c.if-at-text.false)) c.unwrap-read.result (taken _ _ _ _ s.at _ _ _ c.form.ensures c.bytes-text.ensures (MatchResult-at_ok _ _ _ c.unwrap-read.ensures c.take_group.ensures));
    }

pub returns-clause-cases : goal.returns-clause-cases
returns-clause-cases g c =
    let s = c.args.self.now in
    let took = taken _ _ _ _ s.at _ _ _ c.form.ensures c.bytes-text.ensures (MatchResult-at_ok _ _ _ c.unwrap-read.ensures c.take_group.ensures) in
    (next_out g.F.LineForm.form s.contest.candidates (text_bytes s.text.now) s.ballots s.at s.place s.reading (omega (arith, ap length c.bytes-text.ensures, c.if-at-text.false)) c.unwrap-read.result took, (took.contest, refl))
