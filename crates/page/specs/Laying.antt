-- What it means to lay bytes into lent memory, as far as there is room.
use Rattle.std.specs.Borrow.{MutBor}
use Rattle.std.specs.Prelude.{◌≡◌, ℕ, zero, suc, ◌+◌, ◌-◌, ◌≤◌, ◌⊎◌, List, [], ◌∷◌, ◌++◌, length, take, drop, refl}
use Rattle.std.proofs.Common.{sym, ap, ◌∙◌, inl, inr, add-zero, zero-add, add_assoc, arith}
use Rattle.std.proofs.lemmas.List.{append_assoc, length-append, length-take, length-take-le, length-drop, take-append-drop, take_all, take_at, drop_at, drop-drop}
use Rattle.std.proofs.lemmas.Bool.{cases_lt}
use Rattle.page.specs.Sinks.{Joins}

-- the list with bs in place of what stands from n on
abbrev pub laid : ℕ → List ℕ → List ℕ → List ℕ
laid n bs xs = take n xs ++ (bs ++ drop (n + length bs) xs)

pub laid_none : (n : ℕ) (xs : List ℕ) → laid n [] xs ≡ xs
laid_none n xs = rw add-zero (take-append-drop n xs)

module _ (n : ℕ) (bs xs : List ℕ) (fits : n + length bs ≤ length xs) where
  front_long : length (take n xs ++ bs) ≡ n + length bs
  front_long = length-append (take n xs) bs ∙ ap (λ k. k + length bs) (length-take-le n xs (omega arith))

  split : laid n bs xs ≡ (take n xs ++ bs) ++ drop (n + length bs) xs
  split = sym (append_assoc (take n xs) bs (drop (n + length bs) xs))

  pub length_laid : length (laid n bs xs) ≡ length xs
  length_laid = omega (arith, ap length split, length-append (take n xs ++ bs) (drop (n + length bs) xs), front_long, length-drop (n + length bs) xs)

  -- bytes laid behind others lie with them
  pub laid_more : (cs : List ℕ) → laid (n + length bs) cs (laid n bs xs) ≡ laid n (bs ++ cs) xs
  laid_more cs =
      let k = n + length bs in
      let before : take k (laid n bs xs) ≡ take n xs ++ bs = ap (take k) split ∙ take_at (take n xs ++ bs) (drop k xs) k front_long in
      let behind : drop (k + length cs) (laid n bs xs) ≡ drop (k + length cs) xs =
      sym (drop-drop (length cs) k (laid n bs xs)) ∙ ap (λ l. drop (length cs) (drop k l)) split ∙ ap (drop (length cs)) (drop_at (take n xs ++ bs) (drop k xs) k front_long) ∙ drop-drop (length cs) k xs in
      let sum : k + length cs ≡ n + length (bs ++ cs) = add_assoc n (length bs) (length cs) ∙ ap (λ m. n + m) (sym (length-append bs cs)) in
      ap (λ l. l ++ (cs ++ drop (k + length cs) (laid n bs xs))) before ∙ ap (λ l. (take n xs ++ bs) ++ (cs ++ l)) (behind ∙ ap (λ m. drop m xs) sum) ∙ simp append_assoc

-- the first r of two lists
take_both : (r : ℕ) (bs cs : List ℕ) → take r (bs ++ cs) ≡ take r bs ++ take (r - length (take r bs)) cs
take_both zero bs cs = refl
take_both (suc r) [] cs = let all : suc r ≡ suc r - 0 = omega arith in ap (λ k. take k cs) all
take_both (suc r) (b ∷ bs) cs =
    let left : r - length (take r bs) ≡ suc r - suc (length (take r bs)) = omega arith in
    ap (λ l. b ∷ l) (take_both r bs cs ∙ ap (λ k. take r bs ++ take k cs) left)

-- the first of the bytes, as many as there is room for behind the first n
module _ (n : ℕ) (bs xs : List ℕ) where
  abbrev kept : List ℕ
  kept = take (length xs - n) bs

  -- they fit, or there is room for none
  fitting : (n + length kept ≤ length xs) ⊎ (kept ≡ [])
  fitting = elim (cases_lt (length xs) n) [
    | inl past ↦ let full : length xs - n ≡ 0 = omega arith in inr (ap (λ k. take k bs) full)
    | inr within ↦ inl (omega (arith, length-take (length xs - n) bs))
  ]

  length_laid_kept : length (laid n kept xs) ≡ length xs
  length_laid_kept = elim fitting [
    | inl fits ↦ length_laid n kept xs fits
    | inr none ↦ ap (λ l. length (laid n l xs)) none ∙ ap length (laid_none n xs)
  ]

  laid_kept_more : (cs : List ℕ) → laid (n + length kept) cs (laid n kept xs) ≡ laid n (kept ++ cs) xs
  laid_kept_more cs = elim fitting [
    | inl fits ↦ laid_more n kept xs fits cs
    | inr none ↦ ap (λ l. laid (n + length l) cs (laid n l xs)) none ∙ ap (λ k. laid k cs (laid n [] xs)) (add-zero n) ∙ ap (laid n cs) (laid_none n xs) ∙ ap (λ l. laid n (l ++ cs) xs) (sym none)
  ]

-- the same memory is lent; the bytes lie behind the first m as far as there is room, and the others are let go
pub record LaidInto (x : MutBor (List ℕ)) (m : ℕ) (bs : List ℕ) (y : MutBor (List ℕ)) (n : ℕ) : Type 0 where
  pub lender : y.ghost_name ≡ x.ghost_name
  pub len : n ≡ m + length (take (length x.now - m) bs)
  pub lies : y.now ≡ laid m (take (length x.now - m) bs) x.now

-- what is kept of the bytes is known
pub laid_as : {x y : MutBor (List ℕ)} {m n : ℕ} {bs : List ℕ} (cs : List ℕ) → take (length x.now - m) bs ≡ cs → y.ghost_name ≡ x.ghost_name → n ≡ m + length cs → y.now ≡ laid m cs x.now → LaidInto x m bs y n
laid_as {x} {m = m} cs e lent count lies = record { lender = lent; len = count ∙ ap (λ l. m + length l) (sym e); lies = lies ∙ ap (λ l. laid m l x.now) (sym e) }

pub laid_into_joins : {X : Type 0} (bytes : X → MutBor (List ℕ)) (len : X → ℕ) → Joins (λ (x : X) bs y. LaidInto (bytes x) (len x) bs (bytes y) (len y))
laid_into_joins {X} bytes len = record {
  none = λ x. laid_as [] (take_all (length (bytes x).now - len x) [] (omega arith)) refl (sym (add-zero (len x))) (sym (laid_none (len x) (bytes x).now));
  more = λ x y z bs cs p q.
      let xs = (bytes x).now in
      let m = len x in
      let first = kept m bs xs in
      let same : length (bytes y).now ≡ length xs = ap length p.lies ∙ length_laid_kept m bs xs in
      let left : length (bytes y).now - len y ≡ length xs - m - length first = omega (arith, p.len, same) in
      let second = take (length xs - m - length first) cs in
      let then : take (length (bytes y).now - len y) cs ≡ second = ap (λ k. take k cs) left in
      let count = q.len ∙ ap (λ l. len y + length l) then ∙ omega (arith, p.len, length-append first second) in
      let lies = q.lies ∙ ap (λ l. laid (len y) l (bytes y).now) then ∙ ap (λ k. laid k second (bytes y).now) p.len ∙ ap (laid (m + length first) second) p.lies ∙ laid_kept_more m bs xs second in
      laid_as (first ++ second) (take_both (length xs - m) bs cs) (q.lender ∙ p.lender) count lies;
}

-- bytes laid where none lay yet
pub laid_at_start : {x y : MutBor (List ℕ)} {bs : List ℕ} {n : ℕ} → LaidInto x 0 bs y n → length bs ≤ length x.now → (n ≡ length bs) × (y.now ≡ bs ++ drop (length bs) x.now)
laid_at_start {x} {bs = bs} p room =
    let all : take (length x.now - 0) bs ≡ bs = take_all (length x.now - 0) bs (omega arith) in
    (p.len ∙ ap (λ l. 0 + length l) all ∙ zero-add (length bs), p.lies ∙ ap (λ l. laid 0 l x.now) all ∙ ap (λ k. bs ++ drop k x.now) (zero-add (length bs)))
