-- What the ballots of a lent source show as a rule.
use Rattle.std.specs.Borrow.{MutBor}
use Rattle.std.specs.Prelude.{◌≡◌, ℕ, List, refl}
use Rattle.std.proofs.Common.{◌∙◌}
use Rattle.irv.specs.Ballots.{Slate, BallotGroup}
use Rattle.irv.specs.Recounts.{ballots_ruling}
use Rattle.irv.proofs.Recounts.{recount_laws}
use Rattle.ballot.specs.Sources.{SoundSource, SameBallots}
use Rattle.ballot.proofs.Sameness.{same_at_all, same_twice}
use Rattle.search.specs.Rules.{SoundRule, Chains}

pub ballots_sound : {s : Slate} {gs : List BallotGroup} {place : ℕ} → SoundSource s gs place → SoundRule s (ballots_ruling s gs)
ballots_sound {s} {gs} sound = record { proper = sound.proper; only_steps = recount_laws.rules_out_steps s gs }

-- the same source is lent, and it stands for the same contest and groups
pub record SameLent {S : Type 0} (contest : S → Slate) (groups : S → List BallotGroup) (x y : MutBor S) : Type 0 where
  pub lender : y.ghost_name ≡ x.ghost_name
  pub same : SameBallots contest groups x.now y.now

pub same_lent_chains : {S X : Type 0} (contest : S → Slate) (groups : S → List BallotGroup) (source : X → MutBor S) → Chains (λ (x y : X). SameLent contest groups (source x) (source y))
same_lent_chains contest groups source = record {
  none = λ x. record { lender = refl; same = same_at_all (source x).now };
  more = λ x y z p q. record { lender = q.lender ∙ p.lender; same = same_twice p.same q.same };
}
