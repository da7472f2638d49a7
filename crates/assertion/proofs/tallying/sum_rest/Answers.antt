-- Each turn adds one group to the sum, and at the end all groups are in it.
use Rattle.std.proofs.Common.{◌≡◌, ℕ, ◌+◌, ◌*◌, ◌≤◌, List, ◌∷◌, length, drop, None, sym, ap, ◌∙◌, subst, arith}
use Rattle.std.proofs.lemmas.List.{drop_all}
use Rattle.irv.specs.Ballots.{BallotGroup}
use Rattle.irv.specs.Assertions.{judged, value_sum}
use Rattle.ballot.specs.Values.{ranked, group_value}
use Rattle.ballot.proofs.Sameness.{same_twice}
use Rattle.assertion.specs.Sums.{most_value}
use Rattle.assertion.proofs.Summing.{sum_first, sum_fits}
use Rattle.assertion.proofs.tallying.sum_rest.Given as given
use Rattle.assertion.proofs.tallying.sum_rest.Goals as goal

-- what is handed out stands at the place in the list of the loop's start
moved : (gs hs : List BallotGroup) (p : ℕ) (x : BallotGroup) → gs ≡ hs → drop p gs ≡ x ∷ drop (p + 1) gs → drop p hs ≡ x ∷ drop (p + 1) hs
moved gs hs p x e here = subst (λ l. drop p l ≡ x ∷ drop (p + 1) l) e here

here : (g : given.Over) (c : goal.After-from-in-Some g) → drop (g.S.BallotSource.place c.loop-group.source) (g.S.BallotSource.groups c.args.source.now) ≡ group_value c.in-Some.group ∷ drop (g.S.BallotSource.place c.loop-group.source + 1) (g.S.BallotSource.groups c.args.source.now)
here g c =
    moved (g.S.BallotSource.groups c.loop-group.source) (g.S.BallotSource.groups c.args.source.now) (g.S.BallotSource.place c.loop-group.source) (group_value c.in-Some.group) c.loop-group.invariant.0.same_groups c.in-Some.ensures.cases.0

-- what the turn adds
added : (g : given.Over) (c : goal.After-from-in-Some g) → c.from.result * c.from-in-Some.result ≡ g.A.Assorter.value c.args.assertion.now (ranked c.in-Some.group.ranking) * c.in-Some.group.count
added g c =
    ap (λ v. v * c.from-in-Some.result) (c.from.ensures ∙ c.value.ensures ∙ ap (λ k. g.A.Assorter.value c.args.assertion.now (ranked k)) c.ranking.ensures)
    ∙ ap (λ n. g.A.Assorter.value c.args.assertion.now (ranked c.in-Some.group.ranking) * n) (c.from-in-Some.ensures ∙ c.count.ensures)

next_sum : (g : given.Over) (c : goal.After-from-in-Some g) → c.loop-group.sum + c.from.result * c.from-in-Some.result + value_sum (g.A.Assorter.value c.args.assertion.now) (g.S.BallotSource.contest c.args.source.now) (drop (g.S.BallotSource.place c.loop-group.source + 1) (g.S.BallotSource.groups c.args.source.now)) ≡ value_sum (g.A.Assorter.value c.args.assertion.now) (g.S.BallotSource.contest c.args.source.now) (drop (g.S.BallotSource.place c.args.source.now) (g.S.BallotSource.groups c.args.source.now))
next_sum g c =
    let v = g.A.Assorter.value c.args.assertion.now in
    let s = g.S.BallotSource.contest c.args.source.now in
    let gs = g.S.BallotSource.groups c.args.source.now in
    let p = g.S.BallotSource.place c.loop-group.source in
    omega (arith, added g c, c.loop-group.invariant.1, sum_first v s (group_value c.in-Some.group) (drop p gs) (drop (p + 1) gs) (here g c))

-- all that is left at the start is small, by the law of the assertion
small : (g : given.Over) (a : g.row.A.Denot) (src : g.row.S.Denot) → judged (g.S.BallotSource.contest src) (g.A.Assorter.written a) ≡ None → value_sum (g.A.Assorter.value a) (g.S.BallotSource.contest src) (drop (g.S.BallotSource.place src) (g.S.BallotSource.groups src)) ≤ most_value
small g a src fine =
    let law = g.A.Assorter.sound a (g.S.BallotSource.contest src) fine in
    let values : (r : List ℕ) → g.A.Assorter.value a r ≤ 1000 = λ r. omega (arith, law.within r, law.small) in
    sum_fits (g.A.Assorter.value a) (g.S.BallotSource.contest src) values (g.S.BallotSource.groups src) (g.S.BallotSource.place src) (g.S.BallotSource.sound src).fit

pub overflow_add-sum : goal.overflow_add-sum
overflow_add-sum g c = omega (arith, next_sum g c, small g c.args.assertion.now c.args.source.now c.requires)

pub loop-group-preserved : goal.loop-group-preserved
loop-group-preserved g c =
    let v = g.A.Assorter.value c.args.assertion.now in
    let s = g.S.BallotSource.contest c.args.source.now in
    let gs = g.S.BallotSource.groups c.args.source.now in (
      same_twice c.loop-group.invariant.0 c.in-Some.ensures.same,
      subst (λ q. c.loop-group.sum + c.from.result * c.from-in-Some.result + value_sum v s (drop q gs) ≡ value_sum v s (drop (g.S.BallotSource.place c.args.source.now) gs)) (sym c.in-Some.ensures.cases.1.1) (next_sum g c),
    )

pub returns : goal.returns
returns g c =
    let v = g.A.Assorter.value c.args.assertion.now in
    let s = g.S.BallotSource.contest c.args.source.now in
    let gs = g.S.BallotSource.groups c.args.source.now in
    let p = g.S.BallotSource.place c.loop-group.source in
    let last : (length (g.S.BallotSource.groups c.loop-group.source) ≤ p) × (g.S.BallotSource.place c.next.new.self ≡ p) = c.in_default.ensures.cases in
    let end : length gs ≤ p = omega (arith, last, ap length c.loop-group.invariant.0.same_groups) in
    let none : value_sum v s (drop p gs) ≡ 0 = ap (value_sum v s) (drop_all p gs end) in
    let whole : c.loop-group.sum ≡ value_sum v s (drop (g.S.BallotSource.place c.args.source.now) gs) = omega (arith, none, c.loop-group.invariant.1) in
    record {
      same = same_twice c.loop-group.invariant.0 c.in_default.ensures.same;
      sum = λ start. whole ∙ ap (λ q. value_sum v s (drop q gs)) start;
      small = omega (arith, whole, small g c.args.assertion.now c.args.source.now c.requires);
    }
