-- Where a text leaves a language, said by what is left of the text; and the languages that lines are made of.
use Rattle.std.specs.Prelude.{◌≡◌, ℕ, ◌+◌, ◌<◌, ◌≤◌, Bool, true, ◌&&◌, List, [], ◌∷◌, ◌++◌, length, decimal, ◌≢◌, nat_le}
use Rattle.std.specs.List.{flat_map, AllByRecursion}
use Rattle.forms.specs.Languages.{Language, Viable, Continues}
use Rattle.forms.specs.Written.{number_limit, newline, Form, row_lines, group_lines, IsNumber, IsIdentifier, IsRanking, written_ranking}

-- no word that begins with p goes on as rest does
abbrev pub Ends : Language → List ℕ → List ℕ → Type 0
Ends L p rest = (b : ℕ) (more : List ℕ) → rest ≡ b ∷ more → Viable L (p ++ (b ∷ [])) → ⊥

-- the form of L breaks in bs where rest begins
pub record BreaksBefore (L : Language) (bs rest : List ℕ) : Type 0 where
  pub read : List ℕ
  pub split : bs ≡ read ++ rest
  pub before : Continues L read
  pub after : Ends L read rest

-- a word of T and then one of X
abbrev pub Then : Language → Language → Language
Then T X w = (t : List ℕ) × (x : List ℕ) × T t × X x × (w ≡ t ++ x)

-- the byte d and then a word of X
abbrev pub Behind : ℕ → Language → Language
Behind d X w = (x : List ℕ) × X x × (w ≡ d ∷ x)

-- bs does not begin with d
abbrev pub NotFirst : ℕ → List ℕ → Type 0
NotFirst d bs = (b : ℕ) (more : List ℕ) → bs ≡ b ∷ more → b ≢ d

-- bs does not begin with a byte of the class C
abbrev pub Outside : (ℕ → Bool) → List ℕ → Type 0
Outside C bs = (b : ℕ) (more : List ℕ) → bs ≡ b ∷ more → C b ≢ true

abbrev pub digit_byte : ℕ → Bool
digit_byte b = nat_le 48 b && nat_le b 57

abbrev pub Number : Language
Number bs = (v : ℕ) × IsNumber v bs

abbrev pub IsSmall : ℕ → Type 0
IsSmall v = v < number_limit

-- what may follow the k-th of at most limit numbers that d joins and e ends
abbrev pub MoreNumbers : ℕ → ℕ → ℕ → ℕ → Language
MoreNumbers d e limit k w = (vs : List ℕ) × (k + length vs ≤ limit) × AllByRecursion IsSmall vs × (w ≡ flat_map (λ v. d ∷ decimal v) vs ++ (e ∷ []))

abbrev pub Numbers : ℕ → ℕ → ℕ → Language
Numbers d e limit = Then Number (MoreNumbers d e limit 1)

-- a ranking with the end of its line
abbrev pub RankingEnd : Language
RankingEnd w = (vs : List ℕ) × IsRanking vs × (w ≡ written_ranking vs ++ (newline ∷ []))

-- the first field of a line
abbrev pub HeadOf : Form → Language
HeadOf row_lines bs = IsIdentifier bs
HeadOf group_lines bs = Number bs
