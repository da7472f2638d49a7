-- How assertions are written as bytes: NEB,w,l and NEN,w,l,c+d+.. and MAJ,w,a,b.
use Rattle.std.specs.Prelude.{ℕ, List, [], ◌∷◌, ◌++◌, codes, decimal}
use Rattle.std.specs.List.{flat_map}
use Rattle.irv.specs.Assertions.{Written, neb, nen, maj}

abbrev pub comma : ℕ
comma = 44

abbrev plus : ℕ
plus = 43

-- the numbers in decimal, the first plain and each further one behind the byte d
abbrev pub numbers_by : ℕ → List ℕ → List ℕ
numbers_by d [] = []
numbers_by d (v ∷ vs) = decimal v ++ flat_map (λ w. d ∷ decimal w) vs

abbrev pub assertion_bytes : Written → List ℕ
assertion_bytes (neb w l) = codes "NEB," ++ numbers_by comma (w ∷ l ∷ [])
assertion_bytes (nen w l set) = codes "NEN," ++ (numbers_by comma (w ∷ l ∷ []) ++ (comma ∷ numbers_by plus set))
assertion_bytes (maj w a b) = codes "MAJ," ++ numbers_by comma (w ∷ a ∷ b ∷ [])
