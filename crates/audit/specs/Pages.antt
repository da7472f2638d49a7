-- The page of a plan, byte by byte.
use Rattle.std.specs.Prelude.{ℕ, ◌+◌, ◌-◌, ◌*◌, ◌/◌, min, max, List, [], ◌∷◌, ◌++◌, map, codes, decimal, unsigned_abs}
use Rattle.std.specs.List.{flat_map}
use Rattle.irv.specs.AssertionForms.{comma, assertion_bytes}
use Rattle.assertion.specs.Kinds.{written_kind, top_kind, half_kind}
use Rattle.audit.specs.Entries.{Entry, Line}

abbrev newline : ℕ
newline = 10

-- the least whole number that is not below x / d
unfoldable pub rounded_up : ℕ → ℕ → ℕ
rounded_up x d = (x + (d - 1)) / d

-- the margin as a part of what all ballots at half are worth, in hundredths of a percent, rounded down
unfoldable pub share : ℕ → ℕ → ℕ → ℕ
share half margin ballots = 10000 * margin / (half * ballots)

-- how many ballots to pull for an assertion, the factor being in thousandths; never more than there are
unfoldable pub sample : ℕ → ℕ → ℕ → ℕ → ℕ
sample factor top margin ballots = min (rounded_up (factor * top * ballots) (2000 * margin)) ballots

-- a line key=value; the key has its equals sign
abbrev pub number_line : List ℕ → ℕ → List ℕ
number_line key v = key ++ (decimal v ++ (newline ∷ []))

abbrev pub assertion_line : Entry → List ℕ
assertion_line e = codes "assertion=" ++ (decimal e.number ++ (comma ∷ (assertion_bytes (written_kind e.assertion) ++ (newline ∷ []))))

-- on a page each margin is above 0, so that its size is its value
abbrev pub share_of : ℕ → Line → ℕ
share_of ballots l = share (half_kind l.entry.assertion) (unsigned_abs l.margin) ballots

abbrev pub sample_of : ℕ → ℕ → Line → ℕ
sample_of factor ballots l = sample factor (top_kind l.entry.assertion) (unsigned_abs l.margin) ballots

-- the four lines of one assertion
abbrev pub line_bytes : ℕ → ℕ → Line → List ℕ
line_bytes factor ballots l =
    assertion_line l.entry ++ (number_line (codes "margin=") (unsigned_abs l.margin) ++ (number_line (codes "share=") (share_of ballots l) ++ number_line (codes "sample=") (sample_of factor ballots l)))

abbrev pub largest : List ℕ → ℕ
largest [] = 0
largest (x ∷ xs) = max x (largest xs)

unfoldable pub page : ℕ → ℕ → ℕ → ℕ → List Line → List ℕ
page winner factor ballots endings ls =
    number_line (codes "winner=") winner ++ (number_line (codes "ballots=") ballots ++ (number_line (codes "endings=") endings ++ (flat_map (line_bytes factor ballots) ls ++ number_line (codes "total=") (largest (map (sample_of factor ballots) ls)))))
