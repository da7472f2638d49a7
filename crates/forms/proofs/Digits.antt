-- Where a number and an identifier end.
use Rattle.std.proofs.Common.{◌≡◌, ℕ, ◌+◌, ◌*◌, ◌/◌, ◌%◌, ◌^◌, ◌<◌, ◌≤◌, true, leb, List, [], ◌∷◌, ◌++◌, length, get_or, decimal, sym, refl, ap, ◌∙◌, subst, ⊎_elim, append_assoc, arith, length-append}
use Rattle.std.specs.List.{AllByRecursion}
use Rattle.std.proofs.lemmas.Fmt.{decimal_digit, decimal_step, decimal_by_steps, decimal_nonempty, first_decimal, length-decimal-le}
use Rattle.std.proofs.ByRecursion.{All-push}
use Rattle.std.proofs.lemmas.Bool.{le-leb, and_from, cases_lt}
use Rattle.forms.specs.Written.{IsIdentifier, identifier_byte}
use Rattle.forms.specs.Fronts.{Ends, Outside, digit_byte, Number, IsSmall}
use Rattle.forms.proofs.Breaking.{all_in}

digit_is : (n : ℕ) → n < 10 → digit_byte (48 + n) ≡ true
digit_is n h = and_from (leb 48 (48 + n)) (leb (48 + n) 57) (le-leb 48 (48 + n) (omega arith)) (le-leb (48 + n) 57 (omega arith))

pub decimal_digits : (v : ℕ) → v < 2 ^ 64 → AllByRecursion (λ b. digit_byte b ≡ true) (decimal v)
decimal_digits v h =
    decimal_by_steps (λ n ds. AllByRecursion (λ b. digit_byte b ≡ true) ds) (λ n small. (digit_is n small, tt))
    (λ n ds large all. All-push (λ b. digit_byte b ≡ true) ds (48 + n % 10) all (digit_is (n % 10) (omega arith))) v h

pub number_digits : (t : List ℕ) → Number t → AllByRecursion (λ b. digit_byte b ≡ true) t
number_digits t n = subst (AllByRecursion (λ b. digit_byte b ≡ true)) (sym n.1.written) (decimal_digits n.0 (omega (arith, n.1.small)))

pub number_some : Number [] → ⊥
number_some n = let some : 0 < length (decimal n.0) = decimal_nonempty n.0 (omega (arith, n.1.small)) in omega (arith, ap length n.1.written)

pub number_is : (v : ℕ) → IsSmall v → Number (decimal v)
number_is v h = (v, record { small = h; written = refl })

-- one digit more
pub decimal_more : (v d : ℕ) → 1 ≤ v → d < 10 → v * 10 + d < 2 ^ 64 → decimal (v * 10 + d) ≡ decimal v ++ ((48 + d) ∷ [])
decimal_more v d some small fits =
    let q : (v * 10 + d) / 10 ≡ v = omega arith in
    let r : (v * 10 + d) % 10 ≡ d = omega arith in
    decimal_step (v * 10 + d) (omega arith) fits ∙ ap (λ n. decimal n ++ ((48 + (v * 10 + d) % 10) ∷ [])) q ∙ ap (λ n. decimal v ++ ((48 + n) ∷ [])) r

-- a byte that is no digit belongs to no number
pub number_ends_outside : (p rest : List ℕ) → Outside digit_byte rest → Ends Number p rest
number_ends_outside p rest outside b more e v =
    outside b more e (all_in digit_byte p b v.0 (subst (AllByRecursion (λ c. digit_byte c ≡ true)) (append_assoc p (b ∷ []) v.0) (number_digits _ v.1)))

-- a zero is a number of its own
pub number_ends_zero : (rest : List ℕ) → Ends Number (decimal 0) rest
number_ends_zero rest b more e (r, (u, is)) = ⊎_elim large small (cases_lt 0 u)
  where
    whole : 48 ∷ (b ∷ r) ≡ decimal u
    whole = ap (λ l. (l ++ (b ∷ [])) ++ r) (sym (decimal_digit 0 (omega arith))) ∙ is.written

    large : 0 < u → ⊥
    large h = let first : 48 < get_or (decimal u) 0 0 = first_decimal u h (omega (arith, is.small)) in omega (arith, ap (λ l. get_or l 0 0) whole)

    small : u ≤ 0 → ⊥
    small h = let none : u ≡ 0 = omega arith in omega (arith, ap length (whole ∙ ap decimal none ∙ decimal_digit 0 (omega arith)))

-- a number of ten times the size has a digit more
longer : (k n v : ℕ) → 1 ≤ n → ((u : ℕ) → n ≤ u → u < 2 ^ 64 → k ≤ length (decimal u)) → n * 10 ≤ v → v < 2 ^ 64 → k + 1 ≤ length (decimal v)
longer k n v some known large fits =
    let step : length (decimal v) ≡ length (decimal (v / 10) ++ ((48 + v % 10) ∷ [])) = ap length (decimal_step v (omega arith) fits) in
    let front : k ≤ length (decimal (v / 10)) = known (v / 10) (omega arith) (omega arith) in
    omega (arith, length-append (decimal (v / 10)) ((48 + v % 10) ∷ []))

nine : (v : ℕ) → 100000000 ≤ v → v < 2 ^ 64 → 9 ≤ length (decimal v)
nine v =
    longer 8 10000000 v (omega arith) (λ v₇.
    longer 7 1000000 v₇ (omega arith) (λ v₆.
    longer 6 100000 v₆ (omega arith) (λ v₅.
    longer 5 10000 v₅ (omega arith) (λ v₄.
    longer 4 1000 v₄ (omega arith) (λ v₃.
    longer 3 100 v₃ (omega arith) (λ v₂.
    longer 2 10 v₂ (omega arith) (λ v₁.
    longer 1 1 v₁ (omega arith) (λ u some fits. decimal_nonempty u fits))))))))

-- nine digits take no more
pub number_ends_long : (v : ℕ) → 100000000 ≤ v → IsSmall v → (rest : List ℕ) → Ends Number (decimal v) rest
number_ends_long v large small rest b more e (r, (u, is)) =
    let short : length (decimal u) ≤ 9 = length-decimal-le 9 u (omega arith) is.small (omega (arith, is.small)) in
    omega (arith, nine v large (omega arith), ap length is.written, length-append (decimal v ++ (b ∷ [])) r, length-append (decimal v) (b ∷ []))

-- an identifier ends at sixteen bytes, or before a byte of another class
pub identifier_ends : (w rest : List ℕ) → (length w < 16 → Outside identifier_byte rest) → Ends IsIdentifier w rest
identifier_ends w rest outside b more e (r, is) =
    outside (omega (arith, is.short, length-append (w ++ (b ∷ [])) r, length-append w (b ∷ []))) b more e
    (all_in identifier_byte w b r (subst (AllByRecursion (λ c. identifier_byte c ≡ true)) (append_assoc w (b ∷ []) r) is.bytes))

pub identifier_some : IsIdentifier [] → ⊥
identifier_some is = omega (arith, is.some)

pub identifier_missing : (rest : List ℕ) → Outside identifier_byte rest → Ends IsIdentifier [] rest
identifier_missing rest outside = identifier_ends [] rest (λ h. outside)
