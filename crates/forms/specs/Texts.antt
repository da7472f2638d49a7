-- What a text of ballots holds, or which fault it has and where.
use Rattle.std.specs.Prelude.{◌≡◌, ℕ, ◌+◌, ◌<◌, ◌≤◌, true, false, ◌⊎◌, List, [], ◌∷◌, ◌++◌, map, length, decimal}
use Rattle.std.specs.List.{flat_map, AllByRecursion}
use Rattle.irv.specs.Ballots.{Slate, member, mem, ranks, Fits, ballots, most_ballots}
use Rattle.forms.specs.Languages.{Breaks}
use Rattle.forms.specs.Written.{comma, Form, Line, WellFormed, LineOf, line_bytes, text_of, group_of}

-- the text is these lines, each well-formed, and their groups fit the contest
pub record Holds (f : Form) (s : Slate) (bs : List ℕ) (ls : List Line) : Type 0 where
  pub text : bs ≡ text_of ls
  pub formed : AllByRecursion (WellFormed f) ls
  pub fit : Fits s (map group_of ls)

-- the causes for which a line is refused
pub data Cause : Type 0 where
  ill_formed : Cause
  bad_count : Cause
  bad_candidate : Cause

-- a well-formed line stands in front of rest
pub record Front (f : Form) (rest : List ℕ) (l : Line) : Type 0 where
  pub formed : WellFormed f l
  pub more : List ℕ
  pub split : rest ≡ line_bytes l ++ more

-- with sum ballots before it, the line's count is not 0 and keeps within the limit
abbrev pub Counts : ℕ → Line → Type 0
Counts sum l = (1 ≤ l.count) × (sum + l.count ≤ most_ballots)

-- c is the first of the line's numbers, after those in ok, that is foreign or comes again
pub record WrongAfter (s : Slate) (l : Line) (ok : List ℕ) : Type 0 where
  pub wrong : ℕ
  pub later : List ℕ
  pub split : l.numbers ≡ ok ++ (wrong ∷ later)
  pub right : ranks s ok ≡ true
  pub fault : (member s wrong ≡ false) ⊎ (mem wrong ok ≡ true)

-- the byte, from 1, of the first digit behind the numbers ok of the line
abbrev pub byte_after : Line → List ℕ → ℕ
byte_after l ok = length l.head + 1 + length (flat_map (λ v. decimal v ++ (comma ∷ [])) ok) + 1

-- the line in front of rest is refused for this cause, at this byte from 1
abbrev pub Refused : Form → Slate → ℕ → List ℕ → Cause → ℕ → Type 0
Refused f s sum rest ill_formed byte = (i : ℕ) × (0 < length rest) × Breaks (LineOf f) rest i × (byte ≡ i + 1)
Refused f s sum rest bad_count byte = (l : Line) × Front f rest l × (Counts sum l → ⊥) × (byte ≡ 1)
Refused f s sum rest bad_candidate byte = (l : Line) × (ok : List ℕ) × Front f rest l × Counts sum l × WrongAfter s l ok × (byte ≡ byte_after l ok)

-- a line that no cause refuses, with sum ballots before it
pub record Good (f : Form) (s : Slate) (sum : ℕ) (l : Line) : Type 0 where
  pub formed : WellFormed f l
  pub counts : Counts sum l
  pub right : ranks s l.numbers ≡ true

-- the first faulty line of a text, from 1, with its cause and byte
pub record Faulty (f : Form) (s : Slate) (bs : List ℕ) (cause : Cause) (line byte : ℕ) : Type 0 where
  pub before : List Line
  pub rest : List ℕ
  pub text : bs ≡ text_of before ++ rest
  pub formed : AllByRecursion (WellFormed f) before
  pub fit : Fits s (map group_of before)
  pub place : line ≡ length before + 1
  pub refused : Refused f s (ballots (map group_of before)) rest cause byte

-- a text is read in one way only, and has one fault at most, and only where it is not read
pub record OneOutcome : Type 0 where
  pub one_reading : (f : Form) (s : Slate) (bs : List ℕ) (ls ms : List Line) → Holds f s bs ls → Holds f s bs ms → ls ≡ ms
  pub no_fault_read : (f : Form) (s : Slate) (bs : List ℕ) (ls : List Line) (c : Cause) (line byte : ℕ) → Holds f s bs ls → Faulty f s bs c line byte → ⊥
  pub one_fault : (f : Form) (s : Slate) (bs : List ℕ) (c d : Cause) (line byte line' byte' : ℕ) → Faulty f s bs c line byte → Faulty f s bs d line' byte' → (c ≡ d) × ((line ≡ line') × (byte ≡ byte'))
