-- No cause was found, so that the law of the assertion bounds the sum and makes its margin right.
use Rattle.std.proofs.Common.{◌≡◌, ◌*◌, ◌≤◌, pos, ◌<ℤ◌, None, sym, ap, ◌∙◌, subst, arith, w64, to_z, of_z}
use Rattle.std.proofs.lemmas.Int.{ints}
use Rattle.irv.specs.Ballots.{Slate, ballots, most_ballots}
use Rattle.irv.specs.Assertions.{Written, judged, margin}
use Rattle.assertion.proofs.Summing.{halves_fit}
use Rattle.assertion.proofs.tallying.tally.Given as given
use Rattle.assertion.proofs.tallying.tally.Goals as goal

fine : (s t : Slate) (a : Written) → t ≡ s → None ≡ judged t a → judged s a ≡ None
fine s t a same none = ap (λ u. judged u a) (sym same) ∙ sym none

pub passed_by-margin-requires : goal.passed_by-margin-requires
passed_by-margin-requires g c =
    let s = g.S.BallotSource.contest c.args.source.now in
    let law = g.A.Assorter.sound c.args.assertion.now s (fine s _ (g.A.Assorter.written c.args.assertion.now) c.contest_of.ensures c.in_ok-judge.ensures) in
    let low : c.half.result ≤ 1000 = omega (arith, c.half.ensures, law.half_within, law.small) in
    let few : c.ballots.result ≤ most_ballots = omega (arith, c.ballots.ensures ∙ ap ballots c.sum_all-sum.ensures.same.same_groups, (g.S.BallotSource.sound c.args.source.now).fit.sum) in
    (c.sum_all-sum.ensures.small, halves_fit c.half.result c.ballots.result low few)

halves : (g : given.Over) (c : goal.After-passed_by-margin g) → c.half.result * c.ballots.result ≡ g.A.Assorter.half c.args.assertion.now * ballots (g.S.BallotSource.groups c.args.source.now)
halves g c =
    ap (λ h. h * c.ballots.result) c.half.ensures ∙ ap (λ n. g.A.Assorter.half c.args.assertion.now * n) (c.ballots.ensures ∙ ap ballots c.sum_all-sum.ensures.same.same_groups)

exact : (g : given.Over) (c : goal.After-passed_by-margin g) → to_z w64 (of_z w64 c.passed_by-margin.result) ≡ margin (g.A.Assorter.value c.args.assertion.now) (g.A.Assorter.half c.args.assertion.now) (g.S.BallotSource.contest c.args.source.now) (g.S.BallotSource.groups c.args.source.now)
exact g c = omega (arith, ints, c.passed_by-margin.type_inv, c.passed_by-margin.ensures, c.sum_all-sum.ensures.sum, halves g c)

pub returns : goal.returns
returns g c =
    let s = g.S.BallotSource.contest c.args.source.now in
    let fits : judged s (g.A.Assorter.written c.args.assertion.now) ≡ None = fine s _ (g.A.Assorter.written c.args.assertion.now) c.contest_of.ensures c.in_ok-judge.ensures in
    record {
      same = c.sum_all-sum.ensures.same;
      outcome = (fits, (c.sum_all-sum.ensures.sum, exact g c));
      rightly = λ holds. (g.A.Assorter.sound c.args.assertion.now s fits).rightly (g.S.BallotSource.groups c.args.source.now) (g.S.BallotSource.sound c.args.source.now).fit (subst (λ m. pos 0 <ℤ m) (exact g c) holds);
    }
