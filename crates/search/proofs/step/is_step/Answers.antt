use Rattle.std.proofs.Common.{◌≡◌, true, cond, not, eqb, leb, sym, ap, ◌∙◌, arith}
use Rattle.std.proofs.lemmas.Bool.{and_parts, and_left, and_right, both_ways, leb-true}
use Rattle.irv.specs.Sets.{empty, has, with, within, first_candidates}
use Rattle.irv.proofs.Recounts.{step_not_within, step_member, step_by_alone}
use Rattle.ballot.specs.Sets.{in_range}
use Rattle.ballot.specs.Values.{contest_slate}
use Rattle.ballot.proofs.Growing.{room_for}
use Rattle.search.proofs.step.is_step.Goals as goal
use Rattle.search.proofs.step.is_step.Goals.{then-within, else-within}

pub returns-then-has : goal.returns-then-has
returns-then-has c =
    let s = contest_slate c.args.contest in
    let R = c.args.standing in
    let out = c.args.out in
    elim c.if-within.branch [
      | then-within w ↦
          let inside : within R c.everyone.result ≡ true = sym c.within.ensures ∙ w.if-within.true in
          let stands : has R out ≡ true = sym w.has.ensures ∙ sym w.value-is ∙ c.if-has.true in
          let bounds = and_parts (leb 1 out) (leb out c.args.contest.candidates) (step_member s c.everyone.result c.everyone.ensures R out inside stands) in
          let room : in_range out ≡ true = room_for out (leb-true 1 out bounds.0) (omega (arith, leb-true out c.args.contest.candidates bounds.1, c.args.contest.proper)) in
          let alone : c.insert.new.self ≡ with out empty =
          c.insert.ensures.after ∙ ap (λ b. cond b (with out c.new-alone.result) c.new-alone.result) (c.insert.ensures.value ∙ room) ∙ ap (with out) c.new-alone.ensures in
          step_by_alone s c.everyone.result c.everyone.ensures R out inside stands c.ne.result (c.ne.ensures ∙ ap (λ n. not (eqb R n)) alone)
      | else-within w ↦ absurd (both_ways c.if-within.value (w.value-is ∙ w.if-within.false) c.if-has.true)
    ]

pub returns-else-has : goal.returns-else-has
returns-else-has c =
    let s = contest_slate c.args.contest in
    let R = c.args.standing in
    let out = c.args.out in
    c.if-has.false ∙ sym (elim c.if-within.branch [
      | then-within w ↦ and_right (within R (first_candidates s.candidates)) _ (and_left (has R out) _ (sym w.has.ensures ∙ sym w.value-is ∙ c.if-has.false))
      | else-within w ↦ step_not_within s c.everyone.result c.everyone.ensures R out (sym c.within.ensures ∙ w.if-within.false)
    ])
