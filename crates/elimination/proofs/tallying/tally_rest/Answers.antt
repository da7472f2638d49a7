-- Each turn adds one group to the table, and at the end all groups are in it.
use Rattle.std.proofs.Common.{◌≡◌, ℕ, ◌+◌, ◌-◌, ◌<◌, ◌≤◌, List, ◌∷◌, length, get_or, drop, set, Some, None, sym, ap, ◌∙◌, subst, arith}
use Rattle.std.proofs.lemmas.List.{length-set, drop_all}
use Rattle.irv.specs.Ballots.{slate, BallotGroup, most_ballots, owner}
use Rattle.irv.specs.Tables.{Shows}
use Rattle.irv.proofs.Adding.{Remains, owner_bounds, none_remains, same_remains, less_remains, sum_within, sum_within_from, next_within}
use Rattle.ballot.specs.Values.{ranked, group_value}
use Rattle.ballot.proofs.Sameness.{same_twice}
use Rattle.elimination.proofs.tallying.tally_rest.Given as given
use Rattle.elimination.proofs.tallying.tally_rest.Goals as goal
use Rattle.elimination.proofs.tallying.tally_rest.Goals.{In-Some, After-count}

-- what is handed out stands at the place in the list of the loop's start
moved : (gs hs : List BallotGroup) (p : ℕ) (x : BallotGroup) → gs ≡ hs → drop p gs ≡ x ∷ drop (p + 1) gs → drop p hs ≡ x ∷ drop (p + 1) hs
moved gs hs p x e here = subst (λ l. drop p l ≡ x ∷ drop (p + 1) l) e here

here : (g : given.Over) (c : In-Some g) → drop (g.S.BallotSource.place c.loop-group.source) (g.S.BallotSource.groups c.args.source.now) ≡ group_value c.in-Some.group ∷ drop (g.S.BallotSource.place c.loop-group.source + 1) (g.S.BallotSource.groups c.args.source.now)
here g c =
    moved (g.S.BallotSource.groups c.loop-group.source) (g.S.BallotSource.groups c.args.source.now) (g.S.BallotSource.place c.loop-group.source) (group_value c.in-Some.group) c.loop-group.invariant.same.same_groups c.in-Some.ensures.cases.0

owns : (g : given.Over) (c : After-count g) → owner c.args.standing.now (ranked c.in-Some.group.ranking) ≡ Some c.in-Some-first_in.owner
owns g c = sym (c.in-Some-first_in.ensures ∙ ap (λ k. owner c.args.standing.now (ranked k)) c.ranking.ensures)

bounds : (g : given.Over) (c : After-count g) → (1 ≤ c.in-Some-first_in.owner) × (c.in-Some-first_in.owner ≤ 16)
bounds g c =
    owner_bounds (slate c.in-Some.group.ranking.candidates) c.args.standing.now (ranked c.in-Some.group.ranking) c.in-Some-first_in.owner c.in-Some.group.ranking.proper.1 c.in-Some.group.ranking.fits (owns g c)

pub add-requires : goal.add-requires
add-requires g c =
    let s = g.S.BallotSource.contest c.args.source.now in
    let gs = g.S.BallotSource.groups c.args.source.now in
    let from = g.S.BallotSource.place c.args.source.now in
    let p = g.S.BallotSource.place c.loop-group.source in
    let x = c.in-Some-first_in.owner in
    let ts = c.loop-group.tallies.counts in
    let sum : get_or ts (x - 1) 0 + c.in-Some.group.count ≤ most_ballots =
    sum_within_from s gs from (get_or ts (x - 1) 0 + c.in-Some.group.count) (g.S.BallotSource.sound c.args.source.now).fit
    (sum_within s (drop from gs) c.args.standing.now (drop p gs) (group_value c.in-Some.group) (drop (p + 1) gs) (here g (goal.at.add-requires g c).In-Some) ts c.loop-group.invariant.remains x (owns g c) (bounds g c).0 (bounds g c).1) in
    record { candidate = bounds g c; sum = omega (arith, sum, c.count.ensures) }

-- the place moved on, and was within the list
moves : (g : given.Over) (c : In-Some g) → length (g.S.BallotSource.groups c.args.source.now) - g.S.BallotSource.place c.next.new.self < length (g.S.BallotSource.groups c.args.source.now) - g.S.BallotSource.place c.loop-group.source
moves g c =
    let gs = g.S.BallotSource.groups c.args.source.now in
    let p = g.S.BallotSource.place c.loop-group.source in
    omega (arith, next_within gs p (group_value c.in-Some.group) (drop (p + 1) gs) (here g c), c.in-Some.ensures.cases.1.1)

pub loop-group-smaller-in-Some-first_in : goal.loop-group-smaller-in-Some-first_in
loop-group-smaller-in-Some-first_in g c = moves g (goal.at.loop-group-smaller-in-Some-first_in g c).In-Some

pub loop-group-smaller : goal.loop-group-smaller
loop-group-smaller g c = moves g (goal.at.loop-group-smaller g c).In-Some

pub loop-group-preserved-in-Some-first_in : goal.loop-group-preserved-in-Some-first_in
loop-group-preserved-in-Some-first_in g c =
    let at = goal.at.loop-group-preserved-in-Some-first_in g c in
    let s = g.S.BallotSource.contest c.args.source.now in
    let gs = g.S.BallotSource.groups c.args.source.now in
    let whole = drop (g.S.BallotSource.place c.args.source.now) gs in
    let p = g.S.BallotSource.place c.loop-group.source in
    let x = c.in-Some-first_in.owner in
    let R = c.args.standing.now in
    let ts = c.loop-group.tallies.counts in
    let so_far = c.loop-group.invariant in
    let more : Remains s whole R (drop (p + 1) gs) (set ts (x - 1) (get_or ts (x - 1) 0 + c.in-Some.group.count)) =
    less_remains s whole R (drop p gs) (group_value c.in-Some.group) (drop (p + 1) gs) (here g at.In-Some) ts so_far.remains x (owns g at.After-count) (bounds g at.After-count).0 (bounds g at.After-count).1 so_far.wide in
    record {
      same = same_twice so_far.same c.in-Some.ensures.same;
      wide = ap length c.add.ensures ∙ length-set ts (x - 1) (get_or ts (x - 1) 0 + c.count.result) ∙ so_far.wide;
      remains =
          subst (λ q. Remains s whole R (drop q gs) c.add.new.self.counts) (sym c.in-Some.ensures.cases.1.1)
          (subst (Remains s whole R (drop (p + 1) gs)) (sym (c.add.ensures ∙ ap (λ n. set ts (x - 1) (get_or ts (x - 1) 0 + n)) c.count.ensures)) more);
    }

pub loop-group-preserved : goal.loop-group-preserved
loop-group-preserved g c =
    let s = g.S.BallotSource.contest c.args.source.now in
    let gs = g.S.BallotSource.groups c.args.source.now in
    let whole = drop (g.S.BallotSource.place c.args.source.now) gs in
    let p = g.S.BallotSource.place c.loop-group.source in
    let R = c.args.standing.now in
    let so_far = c.loop-group.invariant in
    let none : owner R (ranked c.in-Some.group.ranking) ≡ None = sym (c.in_default-first_in.ensures ∙ ap (λ k. owner R (ranked k)) c.ranking.ensures) in
    record {
      same = same_twice so_far.same c.in-Some.ensures.same;
      wide = so_far.wide;
      remains =
          subst (λ q. Remains s whole R (drop q gs) c.loop-group.tallies.counts) (sym c.in-Some.ensures.cases.1.1)
          (same_remains s whole R (drop p gs) (group_value c.in-Some.group) (drop (p + 1) gs) (here g (goal.at.loop-group-preserved g c).In-Some) c.loop-group.tallies.counts so_far.remains none);
    }

pub returns : goal.returns
returns g c =
    let s = g.S.BallotSource.contest c.args.source.now in
    let gs = g.S.BallotSource.groups c.args.source.now in
    let whole = drop (g.S.BallotSource.place c.args.source.now) gs in
    let p = g.S.BallotSource.place c.loop-group.source in
    let so_far = c.loop-group.invariant in
    let last : (length (g.S.BallotSource.groups c.loop-group.source) ≤ p) × (g.S.BallotSource.place c.next.new.self ≡ p) = c.in_default.ensures.cases in
    let end : length gs ≤ p = omega (arith, last, ap length so_far.same.same_groups) in
    record {
      same = same_twice so_far.same c.in_default.ensures.same;
      tallies = λ start. subst (λ q. Shows s (drop q gs) c.args.standing.now c.loop-group.tallies.counts) start (none_remains s whole c.args.standing.now (drop p gs) c.loop-group.tallies.counts (drop_all p gs end) so_far.remains);
    }
