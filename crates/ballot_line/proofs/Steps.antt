-- What the readers of tokens keep from turn to turn, and what they have at their returns.
use Rattle.std.proofs.Common.{◌≡◌, ℕ, ◌+◌, ◌*◌, ◌<◌, ◌≤◌, true, false, List, [], ◌∷◌, ◌++◌, length, get_or, take, drop, decimal, sym, ap, ◌∙◌, subst, ⊎_elim, append_assoc, arith}
use Rattle.std.specs.List.{AllByRecursion, prefix_len}
use Rattle.std.proofs.lemmas.Fmt.{decimal_digit}
use Rattle.std.proofs.lemmas.List.{drop_more, drop_all, get_or-take, length-take, length-take-le, take-append-drop}
use Rattle.std.proofs.lemmas.List.Elements.{All-from_get_or, recursion_from_All}
use Rattle.std.proofs.lemmas.List.Sums.{prefix_len-le-length, prefix_len_passes, prefix_len_stops}
use Rattle.std.proofs.lemmas.Bool.{both_ways, cases_lt}
use Rattle.forms.specs.Written.{identifier_byte}
use Rattle.forms.specs.Fronts.{Outside, digit_byte, IsSmall}
use Rattle.forms.proofs.Digits.{decimal_more, number_ends_outside, number_ends_zero, number_ends_long, identifier_ends}
use Rattle.ballot_line.specs.Tokens.{TakesNumber, NoNumber, TakesIdentifier}

-- the digits of v stand in front of rest, and v is not 0
pub record NumberSofar (bs : List ℕ) (v : ℕ) (rest : List ℕ) : Type 0 where
  pub some : 1 ≤ v
  pub small : IsSmall v
  pub split : bs ≡ decimal v ++ rest

pub number_first : (bs : List ℕ) (v : ℕ) (rest : List ℕ) → 1 ≤ v → v < 10 → bs ≡ (48 + v) ∷ rest → NumberSofar bs v rest
number_first bs v rest some small is = record {
  some = some;
  small = omega arith;
  split = is ∙ ap (λ l. l ++ rest) (sym (decimal_digit v small));
}

pub number_more : (bs : List ℕ) (v d : ℕ) (rest more : List ℕ) → NumberSofar bs v rest → v < 100000000 → d < 10 → rest ≡ (48 + d) ∷ more → NumberSofar bs (v * 10 + d) more
number_more bs v d rest more h low small is = record {
  some = omega (arith, h.some);
  small = omega arith;
  split = h.split ∙ ap (λ l. decimal v ++ l) is ∙ sym (append_assoc (decimal v) ((48 + d) ∷ []) more) ∙ ap (λ l. l ++ more) (sym (decimal_more v d h.some small (omega arith)));
}

pub number_zero : (bs : List ℕ) (v : ℕ) (rest : List ℕ) → v ≡ 0 → bs ≡ (48 + v) ∷ rest → TakesNumber bs v rest
number_zero bs v rest none is = subst (λ n. TakesNumber bs n rest) (sym none) (record {
  small = omega arith;
  split = is ∙ ap (λ n. (48 + n) ∷ rest) none ∙ ap (λ l. l ++ rest) (sym (decimal_digit 0 (omega arith)));
  ends = number_ends_zero rest;
})

pub number_outside : (bs : List ℕ) (v : ℕ) (rest : List ℕ) → NumberSofar bs v rest → Outside digit_byte rest → TakesNumber bs v rest
number_outside bs v rest h outside = record { small = h.small; split = h.split; ends = number_ends_outside (decimal v) rest outside }

pub number_long : (bs : List ℕ) (v : ℕ) (rest : List ℕ) → NumberSofar bs v rest → 100000000 ≤ v → TakesNumber bs v rest
number_long bs v rest h large = record { small = h.small; split = h.split; ends = number_ends_long v large h.small rest }

pub number_none : (bs rest : List ℕ) → rest ≡ bs → Outside digit_byte bs → NoNumber bs rest
number_none bs rest all outside = record { all = all; missing = number_ends_outside [] bs outside }

-- the byte at n is of another class
pub stops_at : (bs : List ℕ) (n : ℕ) → n < length bs → identifier_byte (get_or bs n 0) ≡ false → Outside identifier_byte (drop n bs)
stops_at bs n within other b more e is =
    let same : get_or bs n 0 ≡ b = cc (drop_more bs n 0 within) in
    both_ways (identifier_byte b) (subst (λ c. identifier_byte c ≡ false) same other) is

pub stops_past : (bs : List ℕ) (n : ℕ) → length bs ≤ n → Outside identifier_byte (drop n bs)
stops_past bs n past b more e is =
    let none : ◌≡◌ {A = ℕ} 0 (length more + 1) = ap length (sym (drop_all n bs past) ∙ e) ∙ omega arith in
    omega arith

-- the first n of at most sixteen bytes are of the class of identifiers, and the next is not
module _ (bs : List ℕ) (n : ℕ) (is : n ≡ prefix_len identifier_byte (take 16 bs)) where
  pub identifier_within : n ≤ length bs
  identifier_within = omega (arith, prefix_len-le-length identifier_byte (take 16 bs), length-take 16 bs)

  short : n ≤ 16
  short = omega (arith, prefix_len-le-length identifier_byte (take 16 bs), length-take 16 bs)

  all_bytes : AllByRecursion (λ b. identifier_byte b ≡ true) (take n bs)
  all_bytes =
      let Right : ℕ → Type 0 = λ b. identifier_byte b ≡ true in
      recursion_from_All Right (take n bs) (All-from_get_or Right (take n bs) 0 λ i h.
      let below : i < n = omega (arith, length-take-le n bs identifier_within) in
      let same : get_or (take 16 bs) i 0 ≡ get_or (take n bs) i 0 = get_or-take 16 bs i 0 (omega (arith, short)) ∙ sym (get_or-take n bs i 0 below) in
      subst Right same (prefix_len_passes identifier_byte (take 16 bs) i 0 (omega (arith, is))))

  ends_outside : n < 16 → Outside identifier_byte (drop n bs)
  ends_outside few =
      ⊎_elim
      (λ inside.
      let stop : identifier_byte (get_or (take 16 bs) n 0) ≡ false =
      subst (λ k. identifier_byte (get_or (take 16 bs) k 0) ≡ false) (sym is) (prefix_len_stops identifier_byte (take 16 bs) 0 (omega (arith, length-take 16 bs))) in
      stops_at bs n inside (subst (λ b. identifier_byte b ≡ false) (get_or-take 16 bs n 0 few) stop))
      (λ past. stops_past bs n past) (cases_lt n (length bs))

  pub identifier_taken : (w rest : List ℕ) → (n ≡ 0 → ⊥) → w ≡ take n bs → rest ≡ drop n bs → TakesIdentifier bs w rest
  identifier_taken w rest some front back =
      let long : length w ≡ n = ap length front ∙ length-take-le n bs identifier_within in
      record {
        formed = record { some = omega arith; short = omega (arith, short); bytes = subst (AllByRecursion (λ b. identifier_byte b ≡ true)) (sym front) all_bytes };
        split = sym (take-append-drop n bs) ∙ ap (λ l. l ++ drop n bs) (sym front) ∙ ap (λ l. w ++ l) (sym back);
        ends = identifier_ends w rest (λ h. subst (Outside identifier_byte) (sym back) (ends_outside (omega arith)));
      }
