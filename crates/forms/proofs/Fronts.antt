-- Where a text breaks, no line stands in front of it, and it breaks in one place only.
use Rattle.std.proofs.Common.{◌≡◌, ℕ, ◌+◌, ◌-◌, ◌<◌, ◌≤◌, List, [], ◌∷◌, ◌++◌, length, take, drop, sym, ap, ◌∙◌, subst, ⊎_elim, arith}
use lib.Seq.{take-append-add}
use Rattle.std.proofs.lemmas.List.{append-nil, append_assoc, length-append, take-append-drop, take-append-le, take-take}
use Rattle.std.proofs.lemmas.Bool.{cases_lt, cases_order}
use Rattle.forms.specs.Languages.{Language, Viable, Breaks}
use Rattle.forms.specs.Written.{Form, Line, WellFormed, LineOf, line_bytes}
use Rattle.forms.proofs.Reading.{one_line}

-- what begins a beginning of a word begins a word
pub viable_front : (L : Language) (n : ℕ) (p q : List ℕ) → L (p ++ q) → Viable L (take n p)
viable_front L n p q h = (drop n p ++ q, subst L (ap (λ x. x ++ q) (sym (take-append-drop n p)) ∙ append_assoc (take n p) (drop n p) q) h)

one_break_before : (L : Language) (bs : List ℕ) (i j : ℕ) → Breaks L bs i → Breaks L bs j → i < j → ⊥
one_break_before L bs i j p q less =
    let (b, rest, is) = q.before in
    p.after (omega (arith, q.within)) (subst (Viable L) (take-take (i + 1) j bs (omega arith)) (viable_front L (i + 1) (take j bs) (b ∷ rest) is))

pub one_break : (L : Language) (bs : List ℕ) (i j : ℕ) → Breaks L bs i → Breaks L bs j → i ≡ j
one_break L bs i j p q = ⊎_elim (λ e. e) (⊎_elim (λ h. absurd (one_break_before L bs i j p q h)) (λ h. absurd (one_break_before L bs j i q p h))) (cases_order i j)

-- a front of a text that is longer than its first part
take_beyond : (n : ℕ) (xs ys : List ℕ) → length xs ≤ n → take n (xs ++ ys) ≡ xs ++ take (n - length xs) ys
take_beyond n xs ys h = let e : n ≡ length xs + (n - length xs) = omega arith in ap (λ k. take k (xs ++ ys)) e ∙ take-append-add xs ys (n - length xs)

pub no_break : (f : Form) (bs : List ℕ) (l : Line) (more : List ℕ) (i : ℕ) → WellFormed f l → bs ≡ line_bytes l ++ more → Breaks (LineOf f) bs i → ⊥
no_break f bs l more i formed split breaks = ⊎_elim inside behind (cases_lt i (length (line_bytes l)))
  where
    inside : i < length (line_bytes l) → ⊥
    inside h =
        let front : take (i + 1) bs ≡ take (i + 1) (line_bytes l) = ap (take (i + 1)) split ∙ take-append-le (i + 1) (line_bytes l) more (omega arith) in
        breaks.after (omega (arith, ap length split, length-append (line_bytes l) more)) (subst (Viable (LineOf f)) (sym front) (viable_front (LineOf f) (i + 1) (line_bytes l) [] (l, formed, append-nil (line_bytes l))))

    behind : length (line_bytes l) ≤ i → ⊥
    behind h =
        let (b, rest, (m, is, word)) = breaks.before in
        let front : take i bs ≡ line_bytes l ++ take (i - length (line_bytes l)) more = ap (take i) split ∙ take_beyond i (line_bytes l) more h in
        let tail : List ℕ = take (i - length (line_bytes l)) more in
        let both : line_bytes l ++ (tail ++ (b ∷ rest)) ≡ line_bytes m ++ [] = sym (append_assoc (line_bytes l) tail (b ∷ rest)) ∙ ap (λ x. x ++ (b ∷ rest)) (sym front) ∙ word ∙ sym (append-nil (line_bytes m)) in
        omega (arith, ap length (one_line f l m _ [] formed is both).1, length-append tail (b ∷ rest))
