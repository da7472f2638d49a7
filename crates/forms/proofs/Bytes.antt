-- Lists of bytes that lack a byte are cut at it in one way, and which bytes the parts of a line lack.
use Rattle.std.proofs.Common.{◌≡◌, ℕ, ◌<◌, ◌≤◌, true, false, leb, List, [], ◌∷◌, ◌++◌, decimal, sym, refl, ap, ◌∙◌, subst, arith}
use Rattle.std.proofs.ByRecursion.{All-weaker, All-append}
use Rattle.std.proofs.lemmas.Bool.{both_ways, le-leb, leb-true, and_parts, and_from, or_left, or_right}
use Rattle.std.specs.List.{flat_map, AllByRecursion}
use Rattle.forms.specs.Written.{comma, newline, number_limit, identifier_byte, written_ranking, Form, row_lines, group_lines, IsHead}
use Rattle.forms.specs.Fronts.{digit_byte}
use Rattle.forms.proofs.Digits as digits

-- no byte of bs is d
abbrev pub Lacks : ℕ → List ℕ → Type 0
Lacks d bs = AllByRecursion (λ b. b ≡ d → ⊥) bs

-- where the byte d first stands, a text is cut in one way
pub one_cut : (d : ℕ) (a b x y : List ℕ) → Lacks d a → Lacks d b → a ++ (d ∷ x) ≡ b ++ (d ∷ y) → (a ≡ b) × (x ≡ y)
one_cut d [] [] x y p q e = (refl, cc)
one_cut d [] (c ∷ b) x y p q e = let same : c ≡ d = cc in absurd (q.0 same)
one_cut d (c ∷ a) [] x y p q e = let same : c ≡ d = cc in absurd (p.0 same)
one_cut d (c ∷ a) (c' ∷ b) x y p q e =
    let first : c ≡ c' = cc in
    let later : a ++ (d ∷ x) ≡ b ++ (d ∷ y) = cc in
    let rest = one_cut d a b x y p.1 q.1 later in
    let same : a ≡ b = rest.0 in
    (cc, rest.1)

abbrev pub Digit : ℕ → Type 0
Digit b = (48 ≤ b) × (b ≤ 57)

pub decimal_digits : (v : ℕ) → v < number_limit → AllByRecursion Digit (decimal v)
decimal_digits v small =
    All-weaker (λ b. digit_byte b ≡ true) Digit (λ b is. let parts = and_parts (leb 48 b) (leb b 57) is in (leb-true 48 b parts.0, leb-true b 57 parts.1)) (decimal v) (digits.decimal_digits v (omega arith))

pub digits_lack : (d : ℕ) → d < 48 → (bs : List ℕ) → AllByRecursion Digit bs → Lacks d bs
digits_lack d low bs h = All-weaker Digit (λ b. b ≡ d → ⊥) (λ b is e. omega arith) bs h

pub decimal_lacks_comma : (v : ℕ) → v < number_limit → Lacks comma (decimal v)
decimal_lacks_comma v small = digits_lack comma (omega arith) (decimal v) (decimal_digits v small)

digit_identifies : (b : ℕ) → Digit b → identifier_byte b ≡ true
digit_identifies b is = or_right _ _ (or_left _ _ (and_from (leb 48 b) (leb b 57) (le-leb 48 b is.0) (le-leb b 57 is.1)))

-- a count is written with bytes that an identifier may have too
pub head_bytes : (f : Form) (bs : List ℕ) (n : ℕ) → IsHead f bs n → AllByRecursion (λ b. identifier_byte b ≡ true) bs
head_bytes row_lines bs n h = h.0.bytes
head_bytes group_lines bs n h = subst (AllByRecursion (λ b. identifier_byte b ≡ true)) (sym h.written) (All-weaker Digit (λ b. identifier_byte b ≡ true) digit_identifies (decimal n) (decimal_digits n h.small))

pub head_lacks : (d : ℕ) → identifier_byte d ≡ false → (f : Form) (bs : List ℕ) (n : ℕ) → IsHead f bs n → Lacks d bs
head_lacks d out f bs n h = All-weaker (λ b. identifier_byte b ≡ true) (λ b. b ≡ d → ⊥) (λ b is e. both_ways (identifier_byte b) (ap identifier_byte e ∙ out) is) bs (head_bytes f bs n h)

ranking_from_comma : (vs : List ℕ) → AllByRecursion (λ v. v < number_limit) vs → AllByRecursion (λ b. 44 ≤ b) (flat_map (λ w. comma ∷ decimal w) vs)
ranking_from_comma [] h = tt
ranking_from_comma (v ∷ vs) h = (omega arith, All-append (λ b. 44 ≤ b) (decimal v) (flat_map (λ w. comma ∷ decimal w) vs) (All-weaker Digit (λ b. 44 ≤ b) (λ b is. omega arith) (decimal v) (decimal_digits v h.0)) (ranking_from_comma vs h.1))

pub ranking_lacks : (vs : List ℕ) → AllByRecursion (λ v. v < number_limit) vs → Lacks newline (written_ranking vs)
ranking_lacks [] h = ((λ e. omega arith), tt)
ranking_lacks (v ∷ vs) h = All-weaker (λ b. 44 ≤ b) (λ b. b ≡ newline → ⊥) (λ b is e. omega arith) (written_ranking (v ∷ vs)) (All-append (λ b. 44 ≤ b) (decimal v) (flat_map (λ w. comma ∷ decimal w) vs) (All-weaker Digit (λ b. 44 ≤ b) (λ b is. omega arith) (decimal v) (decimal_digits v h.0)) (ranking_from_comma vs h.1))
