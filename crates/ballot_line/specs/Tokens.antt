-- What it is to take a number or an identifier off the front of a text.
use Rattle.std.specs.Prelude.{◌≡◌, ℕ, List, [], ◌++◌, decimal}
use Rattle.forms.specs.Written.{IsIdentifier}
use Rattle.forms.specs.Fronts.{Ends, Number, IsSmall}

-- the longest number in front of bs is that of v, and rest follows it
pub record TakesNumber (bs : List ℕ) (v : ℕ) (rest : List ℕ) : Type 0 where
  pub small : IsSmall v
  pub split : bs ≡ decimal v ++ rest
  pub ends : Ends Number (decimal v) rest

-- no number stands in front of bs, and all of it is left
pub record NoNumber (bs rest : List ℕ) : Type 0 where
  pub all : rest ≡ bs
  pub missing : Ends Number [] bs

-- the longest identifier in front of bs is w, and rest follows it
pub record TakesIdentifier (bs w rest : List ℕ) : Type 0 where
  pub formed : IsIdentifier w
  pub split : bs ≡ w ++ rest
  pub ends : Ends IsIdentifier w rest

-- no identifier stands in front of bs, and all of it is left
pub record NoIdentifier (bs rest : List ℕ) : Type 0 where
  pub all : rest ≡ bs
  pub missing : Ends IsIdentifier [] bs
