-- A text is read in one way: which line stands in front of it, and what follows.
use Rattle.std.proofs.Common.{◌≡◌, ℕ, ◌<◌, List, [], ◌∷◌, ◌++◌, length, decimal, sym, refl, ap, ◌∙◌, subst, arith}
use Rattle.std.proofs.lemmas.Fmt.{decimal_nonempty, decimal_injective}
use Rattle.std.proofs.lemmas.List.{append-nil, append_assoc, length-append}
use Rattle.std.specs.List.{flat_map, AllByRecursion}
use Rattle.forms.specs.Written.{hyphen, comma, semicolon, newline, number_limit, written_ranking, Form, row_lines, group_lines, Line, IsHead, WellFormed, line_bytes}
use Rattle.forms.proofs.Bytes.{Digit, one_cut, decimal_digits, decimal_lacks_comma, head_lacks, ranking_lacks}

-- numbers that each end in a comma
abbrev pub ended_numbers : List ℕ → List ℕ
ended_numbers vs = flat_map (λ v. decimal v ++ (comma ∷ [])) vs

-- a comma behind numbers with commas between them
pub numbers_ended : (v : ℕ) (vs : List ℕ) → written_ranking (v ∷ vs) ++ (comma ∷ []) ≡ ended_numbers (v ∷ vs)
numbers_ended v [] = simp append-nil
numbers_ended v (w ∷ vs) = append_assoc (decimal v) _ (comma ∷ []) ∙ ap (λ x. decimal v ++ (comma ∷ x)) (numbers_ended w vs) ∙ sym (append_assoc (decimal v) (comma ∷ []) (ended_numbers (w ∷ vs)))

no_nil : {X : Type 0} (xs ys : List X) (x : X) → [] ≡ xs ++ (x ∷ ys) → ⊥
no_nil xs ys x e = omega (arith, ap length e, length-append xs (x ∷ ys))

one_list : (vs ws : List ℕ) → AllByRecursion (λ v. v < number_limit) vs → AllByRecursion (λ v. v < number_limit) ws → ended_numbers vs ≡ ended_numbers ws → vs ≡ ws
one_list [] [] p q e = refl
one_list [] (w ∷ ws) p q e = absurd (no_nil (decimal w) (ended_numbers ws) comma (e ∙ append_assoc (decimal w) (comma ∷ []) (ended_numbers ws)))
one_list (v ∷ vs) [] p q e = absurd (no_nil (decimal v) (ended_numbers vs) comma (sym e ∙ append_assoc (decimal v) (comma ∷ []) (ended_numbers vs)))
one_list (v ∷ vs) (w ∷ ws) p q e =
    let cut = one_cut comma (decimal v) (decimal w) (ended_numbers vs) (ended_numbers ws) (decimal_lacks_comma v p.0) (decimal_lacks_comma w q.0) (sym (append_assoc (decimal v) (comma ∷ []) (ended_numbers vs)) ∙ e ∙ append_assoc (decimal w) (comma ∷ []) (ended_numbers ws)) in
    let first : v ≡ w = decimal_injective v w (omega (arith, p.0)) (omega (arith, q.0)) cut.0 in
    let later : vs ≡ ws = one_list vs ws p.1 q.1 cut.1 in
    cc

-- a hyphen begins no number
no_hyphen : (ds more : List ℕ) → 0 < length ds → AllByRecursion Digit ds → hyphen ∷ [] ≡ ds ++ more → ⊥
no_hyphen [] more some is e = omega arith
no_hyphen (d ∷ ds) more some is e = let same : hyphen ≡ d = cc in omega (arith, is.0)

pub one_ranking : (vs ws : List ℕ) → AllByRecursion (λ v. v < number_limit) vs → AllByRecursion (λ v. v < number_limit) ws → written_ranking vs ≡ written_ranking ws → vs ≡ ws
one_ranking [] [] p q e = refl
one_ranking [] (w ∷ ws) p q e = absurd (no_hyphen (decimal w) _ (decimal_nonempty w (omega (arith, q.0))) (decimal_digits w q.0) e)
one_ranking (v ∷ vs) [] p q e = absurd (no_hyphen (decimal v) _ (decimal_nonempty v (omega (arith, p.0))) (decimal_digits v p.0) (sym e))
one_ranking (v ∷ vs) (w ∷ ws) p q e = one_list (v ∷ vs) (w ∷ ws) p q (sym (numbers_ended v vs) ∙ ap (λ x. x ++ (comma ∷ [])) e ∙ numbers_ended w ws)

one_count : (f : Form) (bs : List ℕ) (m n : ℕ) → IsHead f bs m → IsHead f bs n → m ≡ n
one_count row_lines bs m n p q = p.1 ∙ sym q.1
one_count group_lines bs m n p q = decimal_injective m n (omega arith) (omega arith) (sym p.written ∙ q.written)

same_line : (l m : Line) → l.head ≡ m.head → l.count ≡ m.count → l.numbers ≡ m.numbers → l ≡ m
same_line l m p q r =
    let a : l ≡ record { head = m.head; count = l.count; numbers = l.numbers } = ap (λ x. record { head = x; count = l.count; numbers = l.numbers }) p in
    let b : ◌≡◌ {A = Line} (record { head = m.head; count = l.count; numbers = l.numbers }) (record { head = m.head; count = m.count; numbers = l.numbers }) = ap (λ x. record { head = m.head; count = x; numbers = l.numbers }) q in
    let c : record { head = m.head; count = m.count; numbers = l.numbers } ≡ m = ap (λ x. record { head = m.head; count = m.count; numbers = x }) r in
    a ∙ b ∙ c

-- a line and what follows it, as its parts
pub line_parts : (l : Line) (more : List ℕ) → line_bytes l ++ more ≡ l.head ++ (semicolon ∷ (written_ranking l.numbers ++ (newline ∷ more)))
line_parts l more = append_assoc l.head _ more ∙ ap (λ x. l.head ++ (semicolon ∷ x)) (append_assoc (written_ranking l.numbers) (newline ∷ []) more)

pub one_line : (f : Form) (l m : Line) (x y : List ℕ) → WellFormed f l → WellFormed f m → line_bytes l ++ x ≡ line_bytes m ++ y → (l ≡ m) × (x ≡ y)
one_line f l m x y p q e =
    let cut = one_cut semicolon l.head m.head _ _ (head_lacks semicolon refl f _ _ p.head) (head_lacks semicolon refl f _ _ q.head) (sym (line_parts l x) ∙ e ∙ line_parts m y) in
    let end = one_cut newline (written_ranking l.numbers) (written_ranking m.numbers) x y (ranking_lacks l.numbers p.ranking.small) (ranking_lacks m.numbers q.ranking.small) cut.1 in
    let count : l.count ≡ m.count = one_count f m.head l.count m.count (subst (λ h. IsHead f h l.count) cut.0 p.head) q.head in
    (same_line l m cut.0 count (one_ranking l.numbers m.numbers p.ranking.small q.ranking.small end.0), end.1)

-- no line is empty
pub some_bytes : (l : Line) (more : List ℕ) → [] ≡ line_bytes l ++ more → ⊥
some_bytes l more e = no_nil l.head _ semicolon (e ∙ line_parts l more)
