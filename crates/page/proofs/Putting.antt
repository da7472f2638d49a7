-- Bytes put one after the other are put together.
use Rattle.std.proofs.Common.{◌≡◌, ℕ, List, ◌++◌, subst}
use Rattle.page.specs.Sinks.{Joins}

module _ {X : Type 0} {took : X → List ℕ → X → Type 0} (joins : Joins took) where
  pub put_on : {x y z : X} {bs cs ds : List ℕ} → took x bs y → took y cs z → bs ++ cs ≡ ds → took x ds z
  put_on {x} {y} {z} {bs} {cs} p q e = subst (λ l. took x l z) e (joins.more x y z bs cs p q)

  -- the same bytes, and the same sink before them
  pub put_as : {x y : X} {bs cs : List ℕ} → took x bs y → bs ≡ cs → took x cs y
  put_as {x} {y} p e = subst (λ l. took x l y) e p

  pub put_from : {x w y : X} {bs : List ℕ} → x ≡ w → took x bs y → took w bs y
  put_from {y} {bs} e p = subst (λ x. took x bs y) e p
