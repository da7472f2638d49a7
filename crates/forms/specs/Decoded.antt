-- A reader of texts that computes: which groups of ballots a text holds, if it is well-formed.
use Rattle.std.specs.Prelude.{ℕ, Bool, false, cond, List, [], ◌∷◌, ◌++◌, map, ◌==◌}
use Rattle.std.specs.Str.Parse.{digits_value}
use Rattle.irv.specs.Ballots.{BallotGroup}
use Rattle.forms.specs.Written.{hyphen, comma, semicolon, newline, Form, row_lines, group_lines}

-- the pieces of a text that each end in the byte d, with acc in front of the first
unfoldable pub ended : ℕ → List ℕ → List ℕ → List (List ℕ)
ended d acc [] = []
ended d acc (b ∷ bs) = cond (b == d) (acc ∷ ended d [] bs) (ended d (acc ++ (b ∷ [])) bs)

-- what stands before the first byte d
unfoldable pub before_byte : ℕ → List ℕ → List ℕ
before_byte d [] = []
before_byte d (b ∷ bs) = cond (b == d) [] (b ∷ before_byte d bs)

-- what stands behind the first byte d
unfoldable pub behind_byte : ℕ → List ℕ → List ℕ
behind_byte d [] = []
behind_byte d (b ∷ bs) = cond (b == d) bs (behind_byte d bs)

-- the one byte of a blank ballot
unfoldable pub is_blank : List ℕ → Bool
is_blank [] = false
is_blank (b ∷ []) = b == hyphen
is_blank (b ∷ c ∷ bs) = false

unfoldable pub decoded_numbers : List ℕ → List ℕ
decoded_numbers bs = cond (is_blank bs) [] (map (digits_value 10) (ended comma [] (bs ++ (comma ∷ []))))

unfoldable pub decoded_count : Form → List ℕ → ℕ
decoded_count row_lines bs = 1
decoded_count group_lines bs = digits_value 10 bs

-- the group of a line, given without its end
unfoldable pub decoded_line : Form → List ℕ → BallotGroup
decoded_line f bs = record { ranking = decoded_numbers (behind_byte semicolon bs); count = decoded_count f (before_byte semicolon bs) }

unfoldable pub decoded : Form → List ℕ → List BallotGroup
decoded f bs = map (decoded_line f) (ended newline [] bs)
