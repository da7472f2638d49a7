-- Each turn adds a step to the path from everybody, and after all but one went out the path is a count.
use Rattle.std.proofs.Common.{◌≡◌, ℕ, ◌+◌, ◌<◌, ◌≤◌, true, false, [], ◌∷◌, ◌++◌, length, sym, ap, ◌∙◌, subst, arith, rules, tests}
use Rattle.std.proofs.lemmas.List.{length-append}
use Rattle.std.proofs.lemmas.Iterator.{first_from_Range}
use Rattle.std.specs.Option.{MatchOption}
use Rattle.irv.specs.Sets.{has}
use Rattle.irv.specs.Ballots.{member}
use Rattle.irv.specs.Tables.{StepFrom}
use Rattle.irv.proofs.Paths.{Leads, leads_push, some_left, left_low, winner_set, count_of, lowest_of_tied}
use Rattle.fixed_list.specs.Lists.{listed}
use Rattle.fixed_list.proofs.Pushing.{room_left}
use Rattle.ballot.proofs.Sameness.{same_twice}
use Rattle.elimination.proofs.Tabling.{outs, tables, tabled}
use Rattle.elimination.proofs.Stepping.{one_comes, what_comes, what_ends_well, nobody_stands}
use Rattle.elimination.proofs.counting.count_ballots.Given as given
use Rattle.elimination.proofs.counting.count_ballots.Goals as goal
use Rattle.elimination.proofs.counting.count_ballots.Goals.{After-find}

pub one_step-requires : goal.one_step-requires
one_step-requires g c =
    let m = g.S.BallotSource in
    let s = m.contest c.args.source.now in
    let gs = m.groups c.args.source.now in
    let R = c.everyone-left.result in
    let all : (k : ℕ) → has R k ≡ member s k = λ k. c.everyone-left.ensures k ∙ ap (λ s. member s k) c.contest_of.ensures in
    let so_far = c.loop.invariant in
    let few : length (listed c.loop.steps) < s.candidates = omega (arith, so_far.many, ap (λ s. s.candidates) c.candidates-end.ensures) in
    let low = left_low outs tables s gs R all (listed c.loop.steps) c.loop.left so_far.path (m.sound c.args.source.now).proper.1 in
    let some = some_left outs tables s gs R all (listed c.loop.steps) c.loop.left so_far.path few in
    record { somebody = (some.0, (some.1, low some.0 some.1)); low = low }

pub unwrap-requires : goal.unwrap-requires
unwrap-requires g c =
    room_left 15 c.one_step.result (listed c.loop.steps) c.push.result (listed c.push.new.self) c.push.ensures
    (omega (arith, c.loop.invariant.many, ap (λ s. s.candidates) c.candidates-end.ensures, (g.S.BallotSource.sound c.args.source.now).proper))

pub loop-preserved : goal.loop-preserved
loop-preserved g c =
    let m = g.S.BallotSource in
    let s = m.contest c.args.source.now in
    let gs = m.groups c.args.source.now in
    let R = c.everyone-left.result in
    let Q = c.loop.left in
    let P = c.one_step.new.standing in
    let x = c.one_step.result in
    let xs = listed c.loop.steps in
    let so_far = c.loop.invariant in
    let pushed : listed c.push.new.self ≡ xs ++ (x ∷ []) = (what_ends_well c.push.result _ _ c.unwrap.result c.push.ensures c.unwrap.ensures).1 in
    let step : StepFrom s gs Q x.out x.tallies.counts P =
    subst (λ k. StepFrom k gs Q x.out x.tallies.counts P) so_far.same.same_contest
    (subst (λ hs. StepFrom (m.contest c.loop.source) hs Q x.out x.tallies.counts P) so_far.same.same_groups c.one_step.ensures.step) in
    record {
      same = same_twice so_far.same c.one_step.ensures.same;
      many = omega (arith, so_far.many, ap length pushed ∙ length-append xs (x ∷ []));
      path = subst (λ l. Leads outs tables s gs R l P) (sym pushed) (leads_push outs tables s gs R xs Q x P so_far.path step);
    }

-- who is found is the first of those who are left
found : (g : given.Over) (c : After-find g) → MatchOption c.find.result ((k : ℕ) → 1 ≤ k → k < 17 → has c.loop.left k ≡ false) (λ i. (1 ≤ i) × (i < 17) × (has c.loop.left i ≡ true) × ((k : ℕ) → 1 ≤ k → k < i → has c.loop.left k ≡ false))
found g c = first_from_Range _ _ _ c.find.result (λ x. has c.loop.left x ≡ true) (λ x. has c.loop.left x ≡ false) c.find.ensures.ran (λ x q called. search (rules, tests)) (λ x q called. search (rules, tests))

pub unwrap-winner-requires : goal.unwrap-winner-requires
unwrap-winner-requires g c =
    let m = g.S.BallotSource in
    let s = m.contest c.args.source.now in
    let gs = m.groups c.args.source.now in
    let R = c.everyone-left.result in
    let all : (k : ℕ) → has R k ≡ member s k = λ k. c.everyone-left.ensures k ∙ ap (λ s. member s k) c.contest_of.ensures in
    let so_far = c.loop.invariant in
    let few : length (listed c.loop.steps) < s.candidates = omega (arith, so_far.many, ap (λ s. s.candidates) c.candidates-end.ensures, (m.sound c.args.source.now).proper) in
    let low = left_low outs tables s gs R all (listed c.loop.steps) c.loop.left so_far.path (m.sound c.args.source.now).proper.1 in
    let some = some_left outs tables s gs R all (listed c.loop.steps) c.loop.left so_far.path few in
    one_comes c.find.result _ _ (found g c) (λ nobody. nobody_stands c.loop.left nobody (some.0, (some.1, low some.0 some.1)))

pub returns : goal.returns
returns g c =
    let m = g.S.BallotSource in
    let s = m.contest c.args.source.now in
    let gs = m.groups c.args.source.now in
    let R = c.everyone-left.result in
    let Q = c.loop.left in
    let w = c.unwrap-winner.result in
    let all : (k : ℕ) → has R k ≡ member s k = λ k. c.everyone-left.ensures k ∙ ap (λ s. member s k) c.contest_of.ensures in
    let xs = listed c.loop.steps in
    let so_far = c.loop.invariant in
    let last : length xs + 1 ≡ s.candidates = omega (arith, so_far.many, ap (λ s. s.candidates) c.candidates-end.ensures, (m.sound c.args.source.now).proper) in
    let stands : has Q w ≡ true = (what_comes c.find.result _ _ w (found g (goal.at.returns g c).After-find) c.unwrap-winner.ensures).2 in
    record {
      same = so_far.same;
      count = record {
        count = count_of outs tables s gs R all xs Q so_far.path w stands last;
        ties = lowest_of_tied outs tables s gs R all xs Q so_far.path w stands last;
        table = tabled s gs R xs Q w so_far.path (winner_set outs tables s gs R all xs Q so_far.path w stands last);
      };
    }
