-- The quotient rounded up is the sample up to the number of ballots.
use Rattle.std.proofs.Common.{◌≡◌, ◌+◌, ◌-◌, ◌*◌, ◌/◌, ap, ◌∙◌, arith}
use Rattle.std.proofs.Math.Nat.{div-zero}
use Rattle.audit.specs.Pages.{rounded_up, sample}
use Rattle.page.proofs.Dividing.{rounds_up}
use Rattle.page.proofs.figures.sample.Goals as goal

pub returns-then-margin-eq0 : goal.returns-then-margin-eq0
unfolding rounded_up sample
returns-then-margin-eq0 c =
    let x = c.args.factor * c.args.top * c.args.ballots in
    let none : (x + (2000 * c.args.margin - 1)) / (2000 * c.args.margin) ≡ 0 = ap (λ m. (x + (2000 * m - 1)) / (2000 * m)) c.if-margin-eq0.true ∙ div-zero (x + (0 - 1)) in
    omega (arith, none)

pub returns : goal.returns
unfolding rounded_up sample
returns c =
    let up = rounds_up (c.from.result * c.from-2.result * c.from-3.result) (2000 * c.from-4.result) (omega arith) in
    cc up
