-- How a break in a part of a language is a break in the whole.
use Rattle.std.proofs.Common.{◌≡◌, ℕ, ◌+◌, ◌-◌, ◌<◌, Bool, true, false, ◌⊎◌, List, [], ◌∷◌, ◌++◌, length, take, sym, refl, ap, ◌∙◌, subst, inl, inr, append_assoc, arith, length-append}
use Rattle.std.specs.List.{AllByRecursion}
use Rattle.std.proofs.lemmas.List.{take_at}
use Rattle.std.proofs.lemmas.Bool.{both_ways}
use Rattle.forms.specs.Languages.{Language, Viable, Continues, Breaks}
use Rattle.forms.specs.Fronts.{Ends, BreaksBefore, Then, Behind, NotFirst}

-- of two fronts of a list one is the beginning of the other
abbrev Overlap : List ℕ → List ℕ → List ℕ → List ℕ → Type 0
Overlap a b c d = ((m : List ℕ) × (a ≡ c ++ m) × (d ≡ m ++ b)) ⊎ ((m : List ℕ) × (c ≡ a ++ m) × (b ≡ m ++ d))

pub overlap : (a b c d : List ℕ) → a ++ b ≡ c ++ d → Overlap a b c d
overlap [] b c d e = inr (c, refl, e)
overlap (x ∷ a) b [] d e = inl (x ∷ a, refl, sym e)
overlap (x ∷ a) b (y ∷ c) d e = go (overlap a b c d (cc))
  where
    same : x ≡ y
    same = cc

    go : Overlap a b c d → Overlap (x ∷ a) b (y ∷ c) d
    go (inl (m, p, q)) = inl (m, cc, q)
    go (inr (m, p, q)) = inr (m, cc, q)

-- what is left says where it breaks
breaks_here : (L : Language) (read rest : List ℕ) → Continues L read → Ends L read rest → Breaks L (read ++ rest) (length read)
breaks_here L read rest goes ends = record {
  within = omega (arith, length-append read rest);
  before = subst (Continues L) (sym (take_at read rest (length read) refl)) goes;
  after = next rest ends;
}
  where
    next : (rest : List ℕ) → Ends L read rest → length read < length (read ++ rest) → Viable L (take (length read + 1) (read ++ rest)) → ⊥
    next [] ends in' v = omega (arith, length-append read [])
    next (b ∷ more) ends in' v =
        ends b more refl (subst (Viable L) (ap (take (length read + 1)) (sym (append_assoc read (b ∷ []) more)) ∙ take_at (read ++ (b ∷ [])) more (length read + 1) (length-append read (b ∷ []))) v)

pub breaks_at : (L : Language) (bs rest : List ℕ) → BreaksBefore L bs rest → Breaks L bs (length bs - length rest)
breaks_at L bs rest h =
    let long : length bs - length rest ≡ length h.read = omega (arith, ap length h.split, length-append h.read rest) in
    subst (λ l. Breaks L l (length bs - length rest)) (sym h.split)
    (subst (λ n. Breaks L (h.read ++ rest) n) (sym long) (breaks_here L h.read rest h.before h.after))

-- languages with the same words break at the same place
pub same_breaks : (L M : Language) → ((w : List ℕ) → L w → M w) → ((w : List ℕ) → M w → L w) → (bs rest : List ℕ) → BreaksBefore L bs rest → BreaksBefore M bs rest
same_breaks L M to from bs rest h = record {
  read = h.read;
  split = h.split;
  before = (h.before.0, h.before.1, to _ h.before.2);
  after = λ b more e v. h.after b more e (v.0, from _ v.1);
}

-- behind the byte d
pub behind_breaks : (d : ℕ) (X : Language) (bs rest : List ℕ) → BreaksBefore X bs rest → BreaksBefore (Behind d X) (d ∷ bs) rest
behind_breaks d X bs rest h = record {
  read = d ∷ h.read;
  split = ap (λ l. d ∷ l) h.split;
  before = (h.before.0, h.before.1, (_, h.before.2, refl));
  after = λ b more e v. h.after b more e (v.0, subst X (let same : v.1.0 ≡ (h.read ++ (b ∷ [])) ++ v.0 = cc v.1.2 in same) v.1.1);
}

-- the byte d is missing
pub behind_missing : (d : ℕ) (X : Language) (x bs : List ℕ) → X x → NotFirst d bs → BreaksBefore (Behind d X) bs bs
behind_missing d X x bs has lacks = record {
  read = [];
  split = refl;
  before = (d, x, (x, has, refl));
  after = λ b more e v. lacks b more e (let same : b ≡ d = cc v.1.2 in same);
}

-- a token is missing
pub then_missing : (T X : Language) (t x bs : List ℕ) → T t → X x → (T [] → ⊥) → Ends T [] bs → BreaksBefore (Then T X) bs bs
then_missing T X t x bs is has some ends = record {
  read = [];
  split = refl;
  before = begin t is;
  after = λ b more e v. first b v.1.0 v.1.1 v.0 v.1.2 v.1.4 (ends b more e);
}
  where
    begin : (t : List ℕ) → T t → Continues (Then T X) []
    begin [] is = absurd (some is)
    begin (b ∷ t) is = (b, t ++ x, (b ∷ t, x, is, has, refl))

    first : (b : ℕ) (t y r : List ℕ) → T t → ((b ∷ []) ++ r) ≡ t ++ y → (Viable T (b ∷ []) → ⊥) → ⊥
    first b [] y r is e no_one = some is
    first b (c ∷ t) y r is e no_one = no_one (t, subst T (let same : (c ∷ t) ≡ (b ∷ t) = cc in same) is)

pub all_in : (C : ℕ → Bool) (t : List ℕ) (c : ℕ) (m : List ℕ) → AllByRecursion (λ b. C b ≡ true) (t ++ (c ∷ m)) → C c ≡ true
all_in C [] c m h = h.0
all_in C (b ∷ t) c m h = all_in C t c m h.1

-- behind the longest token: its words are of a class of bytes, and no word of X begins with one of them
module _ (T X : Language) (C : ℕ → Bool) (of : (t : List ℕ) → T t → AllByRecursion (λ b. C b ≡ true) t) (apart : (b : ℕ) (x : List ℕ) → X (b ∷ x) → C b ≡ false) where
  -- a word of the whole that begins with w, where no longer token does, has w for its token
  pub token_same : (w p t x : List ℕ) → T w → ((b : ℕ) (r : List ℕ) → p ≡ b ∷ r → Viable T (w ++ (b ∷ [])) → ⊥) → T t → X x → t ++ x ≡ w ++ p → x ≡ p
  token_same w p t x tw ends tt' xx e = go (overlap t x w p e)
    where
      longer : (m : List ℕ) → t ≡ w ++ m → p ≡ m ++ x → x ≡ p
      longer [] same rest = sym rest
      longer (c ∷ m) same rest = absurd (ends c (m ++ x) rest (m, subst T (same ∙ sym (append_assoc w (c ∷ []) m)) tt'))

      shorter : (m : List ℕ) → w ≡ t ++ m → x ≡ m ++ p → x ≡ p
      shorter [] same rest = rest
      shorter (c ∷ m) same rest = absurd (both_ways (C c) (apart c (m ++ p) (subst X rest xx)) (all_in C t c m (subst (AllByRecursion (λ b. C b ≡ true)) same (of w tw))))

      go : Overlap t x w p → x ≡ p
      go (inl (m, same, rest)) = longer m same rest
      go (inr (m, same, rest)) = shorter m same rest

  pub then_breaks : (w bs rest : List ℕ) → T w → Ends T w bs → BreaksBefore X bs rest → BreaksBefore (Then T X) (w ++ bs) rest
  then_breaks w bs rest tw ends h = record {
    read = w ++ h.read;
    split = ap (λ l. w ++ l) h.split ∙ sym (append_assoc w h.read rest);
    before = (h.before.0, h.before.1, (w, h.read ++ (h.before.0 ∷ h.before.1), tw, h.before.2, append_assoc w h.read (h.before.0 ∷ h.before.1)));
    after = λ b more e v. h.after b more e (v.0, subst X (tail b more e v) v.1.3);
  }
    where
      -- where the text goes on, so do the tokens
      start : (read : List ℕ) (b : ℕ) (more r : List ℕ) → bs ≡ read ++ (b ∷ more) → (c : ℕ) (s : List ℕ) → (read ++ (b ∷ [])) ++ r ≡ c ∷ s → Viable T (w ++ (c ∷ [])) → ⊥
      start [] b more r is c s e v = ends b more is (subst (λ n. Viable T (w ++ (n ∷ []))) (let same : c ≡ b = cc in same) v)
      start (a ∷ read) b more r is c s e v = ends a (read ++ (b ∷ more)) is (subst (λ n. Viable T (w ++ (n ∷ []))) (let same : c ≡ a = cc in same) v)

      tail : (b : ℕ) (more : List ℕ) → rest ≡ b ∷ more → (v : Viable (Then T X) ((w ++ h.read) ++ (b ∷ []))) → v.1.1 ≡ (h.read ++ (b ∷ [])) ++ v.0
      tail b more e v =
          token_same w ((h.read ++ (b ∷ [])) ++ v.0) v.1.0 v.1.1 tw
          (start h.read b more v.0 (h.split ∙ ap (λ l. h.read ++ l) e)) v.1.2 v.1.3
          (sym v.1.4 ∙ simp append_assoc)
