-- The reader that computes finds the groups of every well-formed text.
use Rattle.std.proofs.Common.{◌≡◌, ℕ, ◌<◌, false, cond, List, [], ◌∷◌, ◌++◌, map, length, decimal, sym, refl, ap, ◌∙◌, arith}
use Rattle.std.proofs.lemmas.Fmt.{decimal_is_IsNumeral, decimal_nonempty}
use Rattle.std.proofs.ByRecursion.{All-append}
use Rattle.std.proofs.lemmas.List.{append-nil, append_assoc}
use Rattle.std.proofs.lemmas.Bool.{eq-eqb, ne_eqb}
use Rattle.std.specs.Str.Parse.{digits_value}
use Rattle.std.specs.List.{AllByRecursion}
use Rattle.irv.specs.Ballots.{BallotGroup}
use Rattle.forms.specs.Decoded.{ended, before_byte, behind_byte, is_blank, decoded_numbers, decoded_count, decoded_line, decoded}
use Rattle.forms.specs.Written.{hyphen, comma, semicolon, newline, number_limit, written_ranking, Form, row_lines, group_lines, Line, IsHead, WellFormed, line_bytes, text_of, group_of}
use Rattle.forms.proofs.Bytes.{Digit, Lacks, decimal_digits, decimal_lacks_comma, head_lacks, ranking_lacks}
use Rattle.forms.proofs.Reading.{ended_numbers, numbers_ended, line_parts}

-- a piece that lacks its end is found whole
pub ended_piece : (d : ℕ) (acc p rest : List ℕ) → Lacks d p → ended d acc (p ++ (d ∷ rest)) ≡ (acc ++ p) ∷ ended d [] rest
unfolding ended
ended_piece d acc [] rest h = rw (eq-eqb d d refl, append-nil acc)
ended_piece d acc (b ∷ p) rest h = rw (ne_eqb b d h.0) (ended_piece d (acc ++ (b ∷ [])) p rest h.1 ∙ ap (λ x. x ∷ ended d [] rest) (append_assoc acc (b ∷ []) p))

pub before_piece : (d : ℕ) (p rest : List ℕ) → Lacks d p → before_byte d (p ++ (d ∷ rest)) ≡ p
unfolding before_byte
before_piece d [] rest h = rw (eq-eqb d d refl)
before_piece d (b ∷ p) rest h = rw (ne_eqb b d h.0) (ap (λ x. b ∷ x) (before_piece d p rest h.1))

pub behind_piece : (d : ℕ) (p rest : List ℕ) → Lacks d p → behind_byte d (p ++ (d ∷ rest)) ≡ rest
unfolding behind_byte
behind_piece d [] rest h = rw (eq-eqb d d refl)
behind_piece d (b ∷ p) rest h = rw (ne_eqb b d h.0) (behind_piece d p rest h.1)

values : (vs : List ℕ) → AllByRecursion (λ v. v < number_limit) vs → map (digits_value 10) (ended comma [] (ended_numbers vs)) ≡ vs
unfolding ended
values [] h = refl
values (v ∷ vs) h =
    ap (λ x. map (digits_value 10) (ended comma [] x)) (append_assoc (decimal v) (comma ∷ []) (ended_numbers vs))
    ∙ ap (map (digits_value 10)) (ended_piece comma [] (decimal v) (ended_numbers vs) (decimal_lacks_comma v h.0))
    ∙ ap (λ x. x ∷ map (digits_value 10) (ended comma [] (ended_numbers vs))) (decimal_is_IsNumeral v (omega (arith, h.0))).1
    ∙ ap (λ x. v ∷ x) (values vs h.1)

not_blank : (ds more : List ℕ) → 0 < length ds → AllByRecursion Digit ds → is_blank (ds ++ more) ≡ false
unfolding is_blank
not_blank [] more some is = absurd (omega arith)
not_blank (d ∷ []) [] some is = ne_eqb d hyphen (omega (arith, is.0))
not_blank (d ∷ []) (b ∷ more) some is = refl
not_blank (d ∷ e ∷ ds) more some is = refl

pub numbers_decoded : (vs : List ℕ) → AllByRecursion (λ v. v < number_limit) vs → decoded_numbers (written_ranking vs) ≡ vs
unfolding decoded_numbers is_blank
numbers_decoded [] h = refl
numbers_decoded (v ∷ vs) h =
    ap (λ b. cond b [] (map (digits_value 10) (ended comma [] (written_ranking (v ∷ vs) ++ (comma ∷ []))))) (not_blank (decimal v) _ (decimal_nonempty v (omega (arith, h.0))) (decimal_digits v h.0))
    ∙ ap (λ x. map (digits_value 10) (ended comma [] x)) (numbers_ended v vs)
    ∙ values (v ∷ vs) h

count_decoded : (f : Form) (bs : List ℕ) (n : ℕ) → IsHead f bs n → decoded_count f bs ≡ n
unfolding decoded_count
count_decoded row_lines bs n h = sym h.1
count_decoded group_lines bs n h = ap (digits_value 10) h.written ∙ (decimal_is_IsNumeral n (omega arith)).1

-- a line without its end
abbrev pub line_front : Line → List ℕ
line_front l = l.head ++ (semicolon ∷ written_ranking l.numbers)

same_group : (vs ws : List ℕ) (m n : ℕ) → vs ≡ ws → m ≡ n → ◌≡◌ {A = BallotGroup} (record { ranking = vs; count = m }) (record { ranking = ws; count = n })
same_group vs ws m n p q =
    let first : ◌≡◌ {A = BallotGroup} (record { ranking = vs; count = m }) (record { ranking = ws; count = m }) = ap (λ x. record { ranking = x; count = m }) p in
    first ∙ ap (λ x. record { ranking = ws; count = x }) q

pub line_decoded : (f : Form) (l : Line) → WellFormed f l → decoded_line f (line_front l) ≡ group_of l
unfolding decoded_line
line_decoded f l is =
    let lacks = head_lacks semicolon refl f l.head l.count is.head in
    same_group _ _ _ _ (ap decoded_numbers (behind_piece semicolon l.head (written_ranking l.numbers) lacks) ∙ numbers_decoded l.numbers is.ranking.small) (ap (decoded_count f) (before_piece semicolon l.head (written_ranking l.numbers) lacks) ∙ count_decoded f l.head l.count is.head)

front_lacks : (f : Form) (l : Line) → WellFormed f l → Lacks newline (line_front l)
front_lacks f l is = All-append (λ b. b ≡ newline → ⊥) l.head (semicolon ∷ written_ranking l.numbers) (head_lacks newline refl f l.head l.count is.head) ((λ e. omega arith), ranking_lacks l.numbers is.ranking.small)

pub line_ended : (l : Line) (more : List ℕ) → line_bytes l ++ more ≡ line_front l ++ (newline ∷ more)
line_ended l more = line_parts l more ∙ sym (append_assoc l.head (semicolon ∷ written_ranking l.numbers) (newline ∷ more))

pub decoded_text : (f : Form) (ls : List Line) → AllByRecursion (WellFormed f) ls → decoded f (text_of ls) ≡ map group_of ls
unfolding decoded ended
decoded_text f [] formed = refl
decoded_text f (l ∷ ls) formed =
    ap (λ x. map (decoded_line f) (ended newline [] x)) (line_ended l (text_of ls))
    ∙ ap (map (decoded_line f)) (ended_piece newline [] (line_front l) (text_of ls) (front_lacks f l formed.0))
    ∙ ap (λ x. x ∷ map (decoded_line f) (ended newline [] (text_of ls))) (line_decoded f l formed.0)
    ∙ ap (λ x. group_of l ∷ x) (decoded_text f ls formed.1)
