-- What every rule shows of itself, and what it is for a rule to be as it was.
use Rattle.std.specs.Prelude.{◌≡◌, refl}
use Rattle.std.proofs.Common.{◌∙◌}
use Rattle.irv.specs.Ballots.{Slate, Proper}
use Rattle.irv.specs.Endings.{Ruling, OnlySteps}

pub record SoundRule (s : Slate) (r : Ruling) : Type 0 where
  pub proper : Proper s
  pub only_steps : OnlySteps s r

-- what is kept once is kept over any number of questions
pub record Chains {X : Type 0} (kept : X → X → Type 0) : Type 0 where
  pub none : (x : X) → kept x x
  pub more : (x y z : X) → kept x y → kept y z → kept x z

-- a rule of which nothing was lent keeps nothing more
pub nothing_lent : {X : Type 0} → Chains (λ (x y : X). Unit {0})
nothing_lent = record { none = λ x. tt; more = λ x y z p q. tt }

-- y is the rule as x was: it stands for the same contest and steps, and the rest that rules of its kind keep is kept
pub record SameRule {X : Type 0} (contest : X → Slate) (ruling : X → Ruling) (kept : X → X → Type 0) (x y : X) : Type 0 where
  pub same_contest : contest y ≡ contest x
  pub same_ruling : ruling y ≡ ruling x
  pub same_rest : kept x y

module _ {X : Type 0} (contest : X → Slate) (ruling : X → Ruling) (kept : X → X → Type 0) (chains : Chains kept) where
  -- without a question a rule is as it was
  pub same_rule_none : (x : X) → SameRule contest ruling kept x x
  same_rule_none x = record { same_contest = refl; same_ruling = refl; same_rest = chains.none x }

  pub same_rule_more : (x y z : X) → SameRule contest ruling kept x y → SameRule contest ruling kept y z → SameRule contest ruling kept x z
  same_rule_more x y z p q = record {
    same_contest = q.same_contest ∙ p.same_contest;
    same_ruling = q.same_ruling ∙ p.same_ruling;
    same_rest = chains.more x y z p.same_rest q.same_rest;
  }
