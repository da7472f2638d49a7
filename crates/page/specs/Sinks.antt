-- What every sink of bytes shows of itself.
use Rattle.std.specs.Prelude.{ℕ, List, [], ◌++◌}

pub record Joins {X : Type 0} (took : X → List ℕ → X → Type 0) : Type 0 where
  pub none : (x : X) → took x [] x
  pub more : (x y z : X) (bs cs : List ℕ) → took x bs y → took y cs z → took x (bs ++ cs) z
