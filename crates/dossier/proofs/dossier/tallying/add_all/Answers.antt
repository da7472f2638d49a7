-- Each group that is handed out is added, until the source is at its end.
use Rattle.std.proofs.Common.{◌≡◌, ℕ, ◌+◌, ◌≤◌, List, [], ◌∷◌, ◌++◌, map, take, drop, sym, ap, ◌∙◌, subst}
use Rattle.irv.specs.Ballots.{BallotGroup, ballots, most_ballots}
use Rattle.ballot.proofs.Sameness.{same_at_all, same_twice}
use Rattle.ballot.specs.Values.{group_value}
use Rattle.audit.specs.Calls.{retallied}
use Rattle.dossier.specs.Tallies.{with_group}
use Rattle.dossier.proofs.Tallying.{taken_more, few_taken, fine_more, more_records, cleared_is}
use Rattle.dossier.proofs.dossier.tallying.add_all.Goals as goal
use Rattle.dossier.proofs.dossier.tallying.add_all.Goals.{In-Some}

-- the group stands at the place in the list of the loop's start
here : (gs hs : List BallotGroup) (p : ℕ) (x : BallotGroup) → gs ≡ hs → drop p gs ≡ x ∷ drop (p + 1) gs → drop p hs ≡ x ∷ drop (p + 1) hs
here gs hs p x e at = subst (λ l. drop p l ≡ x ∷ drop (p + 1) l) e at

pub loop-group-init : goal.loop-group-init
loop-group-init g c = record {
  so_far = c.requires.none_yet ∙ cleared_is (g.S.BallotSource.contest c.args.source.now) c.args.records.now ∙ ap (λ p. map (retallied (g.S.BallotSource.contest c.args.source.now) (take p (g.S.BallotSource.groups c.args.source.now))) c.args.records.now) (sym c.requires.start);
  same = same_at_all c.args.source.now;
}

pub add_group-requires : goal.add_group-requires
add_group-requires g c =
    let m = g.S.BallotSource in
    let s = m.contest c.args.source.now in
    let gs = m.groups c.args.source.now in
    let p = m.place c.loop-group.source in
    let x = group_value c.in-Some.group in
    let at = here (m.groups c.loop-group.source) gs p x c.loop-group.invariant.same.same_groups c.in-Some.ensures.cases.0 in
    let few : ballots (take p gs ++ (x ∷ [])) ≤ most_ballots = subst (λ l. ballots l ≤ most_ballots) (taken_more gs p x at) (few_taken s gs (p + 1) (m.sound c.args.source.now).fit) in
    (s, fine_more s (take p gs) x c.args.records.now c.loop-group.records c.loop-group.invariant.so_far few c.requires.fine)

pub loop-group-preserved : goal.loop-group-preserved
loop-group-preserved g c =
    let m = g.S.BallotSource in
    let s = m.contest c.args.source.now in
    let gs = m.groups c.args.source.now in
    let rs = c.args.records.now in
    let p = m.place c.loop-group.source in
    let x = group_value c.in-Some.group in
    let at = here (m.groups c.loop-group.source) gs p x c.loop-group.invariant.same.same_groups c.in-Some.ensures.cases.0 in
    record {
      so_far = c.add_group.ensures ∙ ap (map (with_group x)) c.loop-group.invariant.so_far ∙ more_records s (take p gs) x rs ∙ ap (λ hs. map (retallied s hs) rs) (sym (taken_more gs p x at)) ∙ ap (λ q. map (retallied s (take q gs)) rs) (sym c.in-Some.ensures.cases.1.1);
      same = same_twice c.loop-group.invariant.same c.in-Some.ensures.same;
    }
