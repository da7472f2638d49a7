-- Where numbers that are joined, and rankings, break.
use Rattle.std.proofs.Common.{◌≡◌, ℕ, ◌+◌, ◌<◌, ◌≤◌, true, false, List, [], ◌∷◌, ◌++◌, length, decimal, sym, refl, ap, ◌∙◌, subst, append_assoc, append-nil, arith}
use Rattle.std.specs.List.{flat_map, AllByRecursion}
use Rattle.std.proofs.lemmas.Bool.{both_ways}
use Rattle.forms.specs.Written.{comma, hyphen, newline, written_numbers, written_ranking}
use Rattle.forms.specs.Fronts.{Ends, BreaksBefore, Then, NotFirst, digit_byte, Number, IsSmall, MoreNumbers, Numbers, RankingEnd}
use Rattle.forms.proofs.Breaking.{then_breaks, then_missing}
use Rattle.forms.proofs.Digits.{decimal_digits, number_digits, number_some, number_is}

-- d joins the numbers and e ends them: two bytes that are no digits
module _ (d e limit : ℕ) (d-mark : digit_byte d ≡ false) (e-mark : digit_byte e ≡ false) (differ : d ≡ e → ⊥) where
  more_apart : (k b : ℕ) (x : List ℕ) → MoreNumbers d e limit k (b ∷ x) → digit_byte b ≡ false
  more_apart k b x ([], few, small, is) = let same : b ≡ e = cc in subst (λ n. digit_byte n ≡ false) (sym same) e-mark
  more_apart k b x (v ∷ vs, few, small, is) = let same : b ≡ d = cc in subst (λ n. digit_byte n ≡ false) (sym same) d-mark

  more_from : (k : ℕ) (w : List ℕ) → MoreNumbers d e limit k (d ∷ w) → (k < limit) × Then Number (MoreNumbers d e limit (k + 1)) w
  more_from k w ([], few, small, is) = let same : d ≡ e = cc in absurd (differ same)
  more_from k w (v ∷ vs, few, small, is) = (
    omega arith,
    (
      decimal v,
      flat_map (λ u. d ∷ decimal u) vs ++ (e ∷ []),
      number_is v small.0,
      (vs, omega arith, small.1, refl),
      (let same : w ≡ (decimal v ++ flat_map (λ u. d ∷ decimal u) vs) ++ (e ∷ []) = cc in same) ∙ append_assoc (decimal v) (flat_map (λ u. d ∷ decimal u) vs) (e ∷ []),
    ),
  )

  more_to : (k : ℕ) (w : List ℕ) → Then Number (MoreNumbers d e limit (k + 1)) w → MoreNumbers d e limit k (d ∷ w)
  more_to k w (t, x, (v, is), (vs, few, small, ends), whole) = (
    v ∷ vs,
    omega arith,
    (is.small, small),
    ap (λ l. d ∷ l) (whole ∙ ap (λ l. l ++ x) is.written ∙ ap (λ l. decimal v ++ l) ends ∙ sym (append_assoc (decimal v) (flat_map (λ u. d ∷ decimal u) vs) (e ∷ []))),
  )

  -- behind the byte that joins
  pub more_breaks : (k : ℕ) (bs rest : List ℕ) → BreaksBefore (Then Number (MoreNumbers d e limit (k + 1))) bs rest → BreaksBefore (MoreNumbers d e limit k) (d ∷ bs) rest
  more_breaks k bs rest h = record {
    read = d ∷ h.read;
    split = ap (λ l. d ∷ l) h.split;
    before = (h.before.0, h.before.1, more_to k _ h.before.2);
    after = λ b more is v. h.after b more is (v.0, (more_from k _ v.1).1);
  }

  -- neither the end nor a byte that joins
  pub more_missing : (k : ℕ) (bs : List ℕ) → k ≤ limit → NotFirst e bs → (k < limit → NotFirst d bs) → BreaksBefore (MoreNumbers d e limit k) bs bs
  more_missing k bs few lacks lacks-d = record {
    read = [];
    split = refl;
    before = (e, [], ([], omega arith, tt, refl));
    after = λ b more is v. first b more is v.0 v.1;
  }
    where
      first : (b : ℕ) (more : List ℕ) → bs ≡ b ∷ more → (r : List ℕ) → MoreNumbers d e limit k (b ∷ r) → ⊥
      first b more is r ([], low, small, whole) = lacks b more is (let same : b ≡ e = cc in same)
      first b more is r (v ∷ vs, low, small, whole) = lacks-d (omega arith) b more is (let same : b ≡ d = cc in same)

  -- behind a number
  pub number_breaks : (k v : ℕ) (bs rest : List ℕ) → IsSmall v → Ends Number (decimal v) bs → BreaksBefore (MoreNumbers d e limit k) bs rest → BreaksBefore (Then Number (MoreNumbers d e limit k)) (decimal v ++ bs) rest
  number_breaks k v bs rest small ends h =
      then_breaks Number (MoreNumbers d e limit k) digit_byte number_digits (more_apart k) (decimal v) bs rest (number_is v small) ends h

  -- no number where one has to stand
  pub number_missing : (k : ℕ) (bs : List ℕ) → k ≤ limit → Ends Number [] bs → BreaksBefore (Then Number (MoreNumbers d e limit k)) bs bs
  number_missing k bs few ends =
      then_missing Number (MoreNumbers d e limit k) (decimal 0) (e ∷ []) bs (number_is 0 (omega arith)) ([], omega arith, tt, refl) number_some ends

-- one number more in a row of them
pub written_more : (d : ℕ) (vs : List ℕ) (v : ℕ) → flat_map (λ u. decimal u ++ (d ∷ [])) vs ++ decimal v ≡ written_numbers d (vs ++ (v ∷ []))
written_more d [] v = sym (append-nil (decimal v))
written_more d (u ∷ []) v = simp (append_assoc, append-nil)
written_more d (u ∷ (y ∷ ys)) v =
    append_assoc (decimal u ++ (d ∷ [])) (flat_map (λ w. decimal w ++ (d ∷ [])) (y ∷ ys)) (decimal v) ∙ append_assoc (decimal u) (d ∷ []) _ ∙ ap (λ l. decimal u ++ (d ∷ l)) (written_more d (y ∷ ys) v)

pub ranking_written : (vs : List ℕ) → 1 ≤ length vs → written_ranking vs ≡ written_numbers comma vs
ranking_written [] h = absurd (omega arith)
ranking_written (v ∷ vs) h = refl

-- no number begins with a hyphen
no_hyphen : (v : ℕ) → IsSmall v → (x r : List ℕ) → hyphen ∷ r ≡ decimal v ++ x → ⊥
no_hyphen v small x r e = go (decimal v) (decimal_digits v (omega arith)) (λ none. number_some (v, record { small = small; written = sym none })) e
  where
    go : (t : List ℕ) → AllByRecursion (λ b. digit_byte b ≡ true) t → (t ≡ [] → ⊥) → hyphen ∷ r ≡ t ++ x → ⊥
    go [] all some e = some refl
    go (b ∷ t) all some e = both_ways (digit_byte b) (let same : b ≡ hyphen = cc in subst (λ n. digit_byte n ≡ false) (sym same) refl) all.0

-- behind the hyphen of a blank ranking
pub blank_breaks : (bs : List ℕ) → NotFirst newline bs → BreaksBefore RankingEnd (hyphen ∷ bs) bs
blank_breaks bs lacks = record {
  read = hyphen ∷ [];
  split = refl;
  before = (newline, [], ([], record { few = omega arith; small = tt }, refl));
  after = λ b more is v. next b more is v.0 v.1;
}
  where
    next : (b : ℕ) (more : List ℕ) → bs ≡ b ∷ more → (r : List ℕ) → RankingEnd (hyphen ∷ (b ∷ r)) → ⊥
    next b more is r ([], formed, whole) = lacks b more is (let same : b ≡ newline = cc in same)
    next b more is r (v ∷ vs, formed, whole) = no_hyphen v formed.small.0 _ _ (whole ∙ append_assoc (decimal v) _ _)

ranking_to : (w : List ℕ) → Numbers comma newline 16 w → RankingEnd w
ranking_to w (t, x, (v, is), (vs, few, small, ends), whole) = (
  v ∷ vs,
  record { few = omega arith; small = (is.small, small) },
  whole ∙ ap (λ l. l ++ x) is.written ∙ ap (λ l. decimal v ++ l) ends ∙ sym (append_assoc (decimal v) (flat_map (λ u. comma ∷ decimal u) vs) (newline ∷ [])),
)

-- a ranking that does not begin with a hyphen is one of numbers
pub ranking_breaks : (bs rest : List ℕ) → NotFirst hyphen bs → BreaksBefore (Numbers comma newline 16) bs rest → BreaksBefore RankingEnd bs rest
ranking_breaks bs rest lacks h = record {
  read = h.read;
  split = h.split;
  before = (h.before.0, h.before.1, ranking_to _ h.before.2);
  after = λ b more is v. h.after b more is (v.0, from b more is v.0 v.1);
}
  where
    begins : (read : List ℕ) (b : ℕ) (more r x : List ℕ) → bs ≡ read ++ (b ∷ more) → (read ++ (b ∷ [])) ++ r ≡ hyphen ∷ x → ⊥
    begins [] b more r x is e = lacks b more is (let same : b ≡ hyphen = cc in same)
    begins (a ∷ read) b more r x is e = lacks a (read ++ (b ∷ more)) is (let same : a ≡ hyphen = cc in same)

    from : (b : ℕ) (more : List ℕ) → rest ≡ b ∷ more → (r : List ℕ) → RankingEnd ((h.read ++ (b ∷ [])) ++ r) → Numbers comma newline 16 ((h.read ++ (b ∷ [])) ++ r)
    from b more is r ([], formed, whole) = absurd (begins h.read b more r (newline ∷ []) (h.split ∙ ap (λ l. h.read ++ l) is) whole)
    from b more is r (v ∷ vs, formed, whole) = (
      decimal v,
      flat_map (λ u. comma ∷ decimal u) vs ++ (newline ∷ []),
      number_is v formed.small.0,
      (vs, omega (arith, formed.few), formed.small.1, refl),
      whole ∙ append_assoc (decimal v) (flat_map (λ u. comma ∷ decimal u) vs) (newline ∷ []),
    )
