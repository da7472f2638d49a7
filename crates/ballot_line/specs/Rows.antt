-- What it is to take a row of numbers, or a ranking, off the front of a text.
use Rattle.std.specs.Prelude.{◌≡◌, ℕ, ◌≤◌, false, List, ◌∷◌, ◌++◌, length}
use Rattle.std.specs.List.{AllByRecursion}
use Rattle.forms.specs.Written.{newline, IsRanking, written_numbers, written_ranking}
use Rattle.forms.specs.Fronts.{digit_byte, IsSmall}

-- d can join numbers and e can end them: neither is a digit, and they differ
pub record Marks (d e : ℕ) : Type 0 where
  pub joins : digit_byte d ≡ false
  pub ends : digit_byte e ≡ false
  pub differ : d ≡ e → ⊥

-- in front of bs stand these numbers, joined by d and ended by e, and rest follows
pub record TakesNumbers (d e limit : ℕ) (bs numbers rest : List ℕ) : Type 0 where
  pub some : 1 ≤ length numbers
  pub few : length numbers ≤ limit
  pub small : AllByRecursion IsSmall numbers
  pub split : bs ≡ written_numbers d numbers ++ (e ∷ rest)

-- in front of bs stands the ranking of these numbers with the end of its line, and rest follows
pub record TakesRanking (bs numbers rest : List ℕ) : Type 0 where
  pub formed : IsRanking numbers
  pub split : bs ≡ written_ranking numbers ++ (newline ∷ rest)
