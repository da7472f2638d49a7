-- A source that was asked twice is still the same.
use Rattle.std.proofs.Common.{List, refl, ◌∙◌}
use Rattle.irv.specs.Ballots.{Slate, BallotGroup}
use Rattle.ballot.specs.Sources.{SameBallots}

module _ {S : Type 0} {contest : S → Slate} {groups : S → List BallotGroup} where
  pub same_at_all : (a : S) → SameBallots contest groups a a
  same_at_all a = record { same_contest = refl; same_groups = refl }

  pub same_twice : {a b c : S} → SameBallots contest groups a b → SameBallots contest groups b c → SameBallots contest groups a c
  same_twice p q = record { same_contest = q.same_contest ∙ p.same_contest; same_groups = q.same_groups ∙ p.same_groups }
