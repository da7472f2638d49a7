-- A text of ballots is read in one way or has one fault, and never both.
use Rattle.std.proofs.Common.{◌≡◌, ℕ, suc, ◌+◌, ◌≤◌, true, leb, List, [], ◌∷◌, ◌++◌, map, length, fold, sym, refl, ap, ◌∙◌, subst, arith}
use Rattle.std.proofs.lemmas.List.{append_assoc}
use Rattle.std.proofs.lemmas.Bool.{and_parts, leb-true}
use Rattle.std.specs.List.{AllByRecursion}
use Rattle.irv.specs.Ballots.{Slate, ranks, BallotGroup, fits_group, all_fit, Fits, most_ballots}
use Rattle.forms.specs.Texts.{Cause, ill_formed, bad_count, bad_candidate, Front, Counts, WrongAfter, byte_after, Refused, Good, OneOutcome}
use Rattle.forms.specs.Written.{Form, Line, WellFormed, LineOf, line_bytes, text_of, group_of}
use Rattle.forms.proofs.Reading.{one_line, some_bytes}
use Rattle.forms.proofs.Fronts.{no_break, one_break}
use Rattle.forms.proofs.Rankings.{no_wrong, one_wrong}

-- well-formed lines are told by their text
pub one_text : (f : Form) (ls ms : List Line) → AllByRecursion (WellFormed f) ls → AllByRecursion (WellFormed f) ms → text_of ls ≡ text_of ms → ls ≡ ms
one_text f [] [] p q e = refl
one_text f [] (m ∷ ms) p q e = absurd (some_bytes m (text_of ms) e)
one_text f (l ∷ ls) [] p q e = absurd (some_bytes l (text_of ls) (sym e))
one_text f (l ∷ ls) (m ∷ ms) p q e =
    let front = one_line f l m (text_of ls) (text_of ms) p.0 q.0 e in
    let first : l ≡ m = front.0 in
    let later : ls ≡ ms = one_text f ls ms p.1 q.1 front.1 in
    cc

-- each line is good with sum ballots before the first
abbrev pub Goods : Form → Slate → ℕ → List Line → Type 0
Goods f s sum [] = Unit {0}
Goods f s sum (l ∷ ls) = Good f s sum l × Goods f s (sum + l.count) ls

-- the ballots of the lines, and sum more
abbrev pub total : ℕ → List Line → ℕ
total sum ls = fold (λ a (g : BallotGroup). a + g.count) sum (map group_of ls)

total_least : (sum : ℕ) (ls : List Line) → sum ≤ total sum ls
total_least sum [] = omega arith
total_least sum (l ∷ ls) = omega (arith, total_least (sum + l.count) ls)

goods : (f : Form) (s : Slate) (sum : ℕ) (ls : List Line) → AllByRecursion (WellFormed f) ls → all_fit s (map group_of ls) ≡ true → total sum ls ≤ most_ballots → Goods f s sum ls
goods f s sum [] formed fit most = tt
goods f s sum (l ∷ ls) formed fit most =
    let both = and_parts (fits_group s (group_of l)) (all_fit s (map group_of ls)) fit in
    let first = and_parts (ranks s l.numbers) (leb 1 l.count) both.0 in
    (record { formed = formed.0; counts = (leb-true 1 l.count first.1, omega (arith, total_least (sum + l.count) ls)); right = first.0 }, goods f s (sum + l.count) ls formed.1 both.1 most)

pub fit_goods : (f : Form) (s : Slate) (ls : List Line) → AllByRecursion (WellFormed f) ls → Fits s (map group_of ls) → Goods f s 0 ls
fit_goods f s ls formed fit = goods f s 0 ls formed fit.groups fit.sum

-- a good line in front is refused for no cause
pub good_not_refused : (f : Form) (s : Slate) (sum : ℕ) (rest : List ℕ) (c : Cause) (byte : ℕ) (l : Line) (more : List ℕ) → Good f s sum l → rest ≡ line_bytes l ++ more → Refused f s sum rest c byte → ⊥
good_not_refused f s sum rest ill_formed byte l more good split r = no_break f rest l more r.0 good.formed split r.2
good_not_refused f s sum rest bad_count byte l more good split r =
    let (m, front, bad, at) = r in
    let same : l ≡ m = (one_line f l m more front.more good.formed front.formed (sym split ∙ front.split)).0 in
    bad (subst (Counts sum) same good.counts)
good_not_refused f s sum rest bad_candidate byte l more good split r =
    let (m, ok, front, counts, wrong, at) = r in
    let same : l ≡ m = (one_line f l m more front.more good.formed front.formed (sym split ∙ front.split)).0 in
    no_wrong s m ok (ap (λ x. ranks s x.numbers) (sym same) ∙ good.right) wrong

-- where nothing is left, nothing is refused
pub end_not_refused : (f : Form) (s : Slate) (sum : ℕ) (c : Cause) (byte : ℕ) → Refused f s sum [] c byte → ⊥
end_not_refused f s sum ill_formed byte r = omega (arith, r.1)
end_not_refused f s sum bad_count byte r = some_bytes r.0 r.1.more r.1.split
end_not_refused f s sum bad_candidate byte r = some_bytes r.0 r.2.more r.2.split

-- one line at most stands in front
pub one_front : (f : Form) (rest : List ℕ) (l m : Line) → Front f rest l → Front f rest m → l ≡ m
one_front f rest l m p q = (one_line f l m p.more q.more p.formed q.formed (sym p.split ∙ q.split)).0

-- a line is refused for one cause and at one byte
pub one_refusal : (f : Form) (s : Slate) (sum : ℕ) (rest : List ℕ) (c d : Cause) (a b : ℕ) → Refused f s sum rest c a → Refused f s sum rest d b → (c ≡ d) × (a ≡ b)
one_refusal f s sum rest ill_formed ill_formed a b p q = (refl, p.3 ∙ ap (λ i. i + 1) (one_break (LineOf f) rest p.0 q.0 p.2 q.2) ∙ sym q.3)
one_refusal f s sum rest ill_formed bad_count a b p q = absurd (no_break f rest q.0 q.1.more p.0 q.1.formed q.1.split p.2)
one_refusal f s sum rest ill_formed bad_candidate a b p q = absurd (no_break f rest q.0 q.2.more p.0 q.2.formed q.2.split p.2)
one_refusal f s sum rest bad_count ill_formed a b p q = absurd (no_break f rest p.0 p.1.more q.0 p.1.formed p.1.split q.2)
one_refusal f s sum rest bad_count bad_count a b p q = (refl, p.3 ∙ sym q.3)
one_refusal f s sum rest bad_count bad_candidate a b p q = absurd (p.2 (subst (Counts sum) (sym (one_front f rest p.0 q.0 p.1 q.2)) q.3))
one_refusal f s sum rest bad_candidate ill_formed a b p q = absurd (no_break f rest p.0 p.2.more q.0 p.2.formed p.2.split q.2)
one_refusal f s sum rest bad_candidate bad_count a b p q = absurd (q.2 (subst (Counts sum) (one_front f rest p.0 q.0 p.2 q.1) p.3))
one_refusal f s sum rest bad_candidate bad_candidate a b p q =
    let (l, ok, front, counts, wrong, at) = p in
    let (m, ok', front', counts', wrong', at') = q in
    let same : l ≡ m = one_front f rest l m front front' in
    let oks : ok ≡ ok' = one_wrong s m ok ok' (subst (λ x. WrongAfter s x ok) same wrong) wrong' in
    (refl, at ∙ ap (λ x. byte_after x ok) same ∙ ap (byte_after m) oks ∙ sym at')

-- good lines throughout leave no place for a refused one
pub goods_not_refused : (f : Form) (s : Slate) (sum : ℕ) (ls before : List Line) (rest : List ℕ) (c : Cause) (byte : ℕ) → text_of ls ≡ text_of before ++ rest → Goods f s sum ls → Goods f s sum before → Refused f s (total sum before) rest c byte → ⊥
goods_not_refused f s sum [] [] rest c byte e p q r = end_not_refused f s sum c byte (subst (λ x. Refused f s sum x c byte) (sym e) r)
goods_not_refused f s sum [] (m ∷ ms) rest c byte e p q r = some_bytes m (text_of ms ++ rest) (e ∙ append_assoc (line_bytes m) (text_of ms) rest)
goods_not_refused f s sum (l ∷ ls) [] rest c byte e p q r = good_not_refused f s sum rest c byte l (text_of ls) p.0 (sym e) r
goods_not_refused f s sum (l ∷ ls) (m ∷ ms) rest c byte e p q r =
    let front = one_line f l m (text_of ls) (text_of ms ++ rest) p.0.formed q.0.formed (e ∙ append_assoc (line_bytes m) (text_of ms) rest) in
    goods_not_refused f s (sum + m.count) ls ms rest c byte front.1 (subst (λ x. Goods f s (sum + x.count) ls) front.0 p.1) q.1 r

-- a text has one first refused line
pub one_refused : (f : Form) (s : Slate) (sum : ℕ) (ls ms : List Line) (x y : List ℕ) (c d : Cause) (a b : ℕ) → text_of ls ++ x ≡ text_of ms ++ y → Goods f s sum ls → Goods f s sum ms → Refused f s (total sum ls) x c a → Refused f s (total sum ms) y d b → (c ≡ d) × ((length ls ≡ length ms) × (a ≡ b))
one_refused f s sum [] [] x y c d a b e p q r t =
    let same = one_refusal f s sum y c d a b (subst (λ z. Refused f s sum z c a) e r) t in
    (same.0, (refl, same.1))
one_refused f s sum [] (m ∷ ms) x y c d a b e p q r t = absurd (good_not_refused f s sum x c a m (text_of ms ++ y) q.0 (e ∙ append_assoc (line_bytes m) (text_of ms) y) r)
one_refused f s sum (l ∷ ls) [] x y c d a b e p q r t = absurd (good_not_refused f s sum y d b l (text_of ls ++ x) p.0 (sym e ∙ append_assoc (line_bytes l) (text_of ls) x) t)
one_refused f s sum (l ∷ ls) (m ∷ ms) x y c d a b e p q r t =
    let front = one_line f l m (text_of ls ++ x) (text_of ms ++ y) p.0.formed q.0.formed (sym (append_assoc (line_bytes l) (text_of ls) x) ∙ e ∙ append_assoc (line_bytes m) (text_of ms) y) in
    let same = one_refused f s (sum + m.count) ls ms x y c d a b front.1 (subst (λ z. Goods f s (sum + z.count) ls) front.0 p.1) q.1 (subst (λ z. Refused f s (total (sum + z.count) ls) x c a) front.0 r) t in
    (same.0, (ap suc same.1.0, same.1.1))

pub one_outcome : OneOutcome
one_outcome = record {
  one_reading = λ f s bs ls ms p q. one_text f ls ms p.formed q.formed (sym p.text ∙ q.text);
  no_fault_read = λ f s bs ls c line byte p q. goods_not_refused f s 0 ls q.before q.rest c byte (sym p.text ∙ q.text) (fit_goods f s ls p.formed p.fit) (fit_goods f s q.before q.formed q.fit) q.refused;
  one_fault = λ f s bs c d line byte line' byte' p q.
      let same = one_refused f s 0 p.before q.before p.rest q.rest c d byte byte' (sym p.text ∙ q.text) (fit_goods f s p.before p.formed p.fit) (fit_goods f s q.before q.formed q.fit) p.refused q.refused in
      (same.0, (p.place ∙ ap (λ n. n + 1) same.1.0 ∙ sym q.place, same.1.1));
}
