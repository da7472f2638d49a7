-- Which refusal a line's fault is, and what it is to take a group off the front of a text.
use Rattle.std.specs.Prelude.{◌≡◌, ℕ, ◌+◌, ◌<◌, true, false, ◌⊎◌, List, [], ◌∷◌, ◌++◌, length, drop, decimal}
use Rattle.std.specs.List.{flat_map}
use Rattle.irv.specs.Ballots.{Slate, member, mem, ranks}
use Rattle.ballot.specs.Values.{ranking_slate, ranked, group_slate, group_value}
use Rattle.ballot.specs.declared.ranking.Ranking.{Ranking}
use Rattle.ballot.specs.declared.refusal.Refusal.{Refusal}
use Rattle.ballot.specs.declared.refusal.Refusal.TheVariants.{Malformed, CandidateForeignOrRepeated, CountOutOfRange}
use Rattle.forms.specs.Texts.{Cause, ill_formed, bad_count, bad_candidate, Refused, Good}
use Rattle.forms.specs.Written.{comma, Form, Line, line_bytes, group_of}
use Rattle.ballot_line.specs.declared.judge.GroupRead.{GroupRead}
use Rattle.ballot_line.specs.declared.judge.LineFault.{LineFault}

abbrev pub cause_refusal : Cause → Refusal
cause_refusal ill_formed = Malformed
cause_refusal bad_count = CountOutOfRange
cause_refusal bad_candidate = CandidateForeignOrRepeated

-- these numbers are a ranking, and k is that ranking
pub record RightNumbers (s : Slate) (numbers : List ℕ) (k : Ranking) : Type 0 where
  pub ranking : ranks s numbers ≡ true
  pub value : ranked k ≡ numbers
  pub contest : ranking_slate k ≡ s

-- the first number that is foreign or comes again, at its first digit behind a first field of so many bytes
pub record WrongNumber (s : Slate) (head : ℕ) (numbers : List ℕ) (e : LineFault) : Type 0 where
  pub ok : List ℕ
  pub wrong : ℕ
  pub later : List ℕ
  pub split : numbers ≡ ok ++ (wrong ∷ later)
  pub right : ranks s ok ≡ true
  pub fault : (member s wrong ≡ false) ⊎ (mem wrong ok ≡ true)
  pub cause : e.cause ≡ CandidateForeignOrRepeated
  pub byte : e.byte ≡ head + 1 + length (flat_map (λ v. decimal v ++ (comma ∷ [])) ok) + 1

-- the group of a good line in front of bs, and how long the line is
pub record TakesGroup (f : Form) (s : Slate) (sum : ℕ) (bs : List ℕ) (r : GroupRead) : Type 0 where
  pub line : Line
  pub good : Good f s sum line
  pub split : bs ≡ line_bytes line ++ drop r.length bs
  pub long : r.length ≡ length (line_bytes line)
  pub value : group_value r.group ≡ group_of line
  pub contest : group_slate r.group ≡ s

-- the line in front of bs is refused for this cause, at this byte
pub record FaultyLine (f : Form) (s : Slate) (sum : ℕ) (bs : List ℕ) (e : LineFault) : Type 0 where
  pub cause : Cause
  pub named : e.cause ≡ cause_refusal cause
  pub refused : 0 < length bs → Refused f s sum bs cause e.byte
