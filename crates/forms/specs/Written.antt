-- How numbers, identifiers, rankings and lines are written.
use Rattle.std.specs.Prelude.{◌≡◌, ℕ, ◌<◌, ◌≤◌, Bool, true, ◌&&◌, ◌||◌, List, [], ◌∷◌, ◌++◌, length, decimal, ◌==◌, nat_le}
use Rattle.std.specs.List.{flat_map, AllByRecursion}
use Rattle.irv.specs.Ballots.{BallotGroup}

-- the bytes of the formats: - , ; and the end of a line
abbrev pub hyphen : ℕ
hyphen = 45

abbrev pub comma : ℕ
comma = 44

abbrev pub semicolon : ℕ
semicolon = 59

abbrev pub newline : ℕ
newline = 10

-- a number has at most nine digits, and no zero in front of others: it is the decimal writing of a value below this
abbrev pub number_limit : ℕ
number_limit = 1000000000

pub record IsNumber (v : ℕ) (bs : List ℕ) : Type 0 where
  pub small : v < number_limit
  pub written : bs ≡ decimal v

abbrev pub identifier_byte : ℕ → Bool
identifier_byte b = (nat_le 65 b && nat_le b 90) || ((nat_le 48 b && nat_le b 57) || b == hyphen)

pub record IsIdentifier (bs : List ℕ) : Type 0 where
  pub some : 1 ≤ length bs
  pub short : length bs ≤ 16
  pub bytes : AllByRecursion (λ b. identifier_byte b ≡ true) bs

-- the first number plain, each further one behind the byte d
abbrev pub written_numbers : ℕ → List ℕ → List ℕ
written_numbers d [] = []
written_numbers d (v ∷ vs) = decimal v ++ flat_map (λ w. d ∷ decimal w) vs

-- a blank ballot is written as a hyphen
abbrev pub written_ranking : List ℕ → List ℕ
written_ranking [] = hyphen ∷ []
written_ranking (v ∷ vs) = written_numbers comma (v ∷ vs)

-- a ranking has the form of at most 16 numbers, whatever candidates they name
pub record IsRanking (vs : List ℕ) : Type 0 where
  pub few : length vs ≤ 16
  pub small : AllByRecursion (λ v. v < number_limit) vs

-- a row is one ballot under an identifier; a group line is a count of ballots
pub data Form : Type 0 where
  row_lines : Form
  group_lines : Form

-- what stands in a line: its first field as written, how many ballots that makes, and the numbers of its ranking
pub record Line : Type 0 where
  pub head : List ℕ
  pub count : ℕ
  pub numbers : List ℕ

abbrev pub IsHead : Form → List ℕ → ℕ → Type 0
IsHead row_lines bs count = IsIdentifier bs × (count ≡ 1)
IsHead group_lines bs count = IsNumber count bs

pub record WellFormed (f : Form) (l : Line) : Type 0 where
  pub head : IsHead f l.head l.count
  pub ranking : IsRanking l.numbers

abbrev pub line_bytes : Line → List ℕ
line_bytes l = l.head ++ (semicolon ∷ (written_ranking l.numbers ++ (newline ∷ [])))

-- the lines of a form, as a language
abbrev pub LineOf : Form → List ℕ → Type 0
LineOf f bs = (l : Line) × WellFormed f l × (bs ≡ line_bytes l)

abbrev pub text_of : List Line → List ℕ
text_of ls = flat_map line_bytes ls

abbrev pub group_of : Line → BallotGroup
group_of l = record { ranking = l.numbers; count = l.count }
