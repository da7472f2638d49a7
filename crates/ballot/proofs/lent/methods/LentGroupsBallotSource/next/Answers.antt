use Rattle.std.proofs.Common.{◌≡◌, ◌<◌, length, get_or, refl, ap, ◌∙◌, arith, rules}
use Rattle.irv.specs.Ballots.{slate}
use Rattle.ballot.proofs.GroupLists.{handed_out, one_of_contest}
use Rattle.ballot.proofs.lent.methods.LentGroupsBallotSource.next.Goals as goal

pub returns-clause-cases : goal.returns-clause-cases
returns-clause-cases c =
    let gs = c.args.self.now.groups.now in
    let i = c.args.self.now.place in
    let g = c.in_ok-group.group.now in
    let is : g ≡ get_or gs i g = search rules in
    let within : i < length gs = omega arith in (
      handed_out gs i g within is,
      (ap (λ h. slate h.ranking.candidates) is ∙ ap slate (one_of_contest c.args.self.now.contest.candidates gs i g within c.args.self.now.one_contest), refl),
    )
