-- Languages of bytes, and where a text stops being the beginning of a word.
use Rattle.std.specs.Prelude.{ℕ, ◌+◌, ◌<◌, ◌≤◌, List, ◌∷◌, ◌++◌, length, take}

-- which lists of bytes are words
abbrev pub Language : Type 1
Language = List ℕ → Type 0

-- some word begins with p
abbrev pub Viable : Language → List ℕ → Type 0
Viable L p = (rest : List ℕ) × L (p ++ rest)

-- some word begins with p and goes on
abbrev pub Continues : Language → List ℕ → Type 0
Continues L p = (b : ℕ) × (rest : List ℕ) × L (p ++ (b ∷ rest))

-- the form of L breaks in bs behind its first i bytes: a word could still go on there, and then either bs ends or no word goes on as bs does
pub record Breaks (L : Language) (bs : List ℕ) (i : ℕ) : Type 0 where
  pub within : i ≤ length bs
  pub before : Continues L (take i bs)
  pub after : i < length bs → Viable L (take (i + 1) bs) → ⊥
