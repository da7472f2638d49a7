-- A page is short.
use Rattle.std.proofs.Common.{◌≡◌, ℕ, zero, suc, ◌+◌, ◌*◌, ◌^◌, ◌<◌, ◌≤◌, Bool, true, false, cond, ltb, leb, List, [], ◌∷◌, ◌++◌, map, length, nat_abs, Some, None, codes, decimal, sym, refl, subst, div-le_self, arith, length-append}
use native.Mathlib.Nat.{min-le_right}
use Rattle.std.proofs.lemmas.Fmt.{length-decimal-le}
use Rattle.std.proofs.lemmas.Bool.{leb-true, ltb-true, and_parts}
use Rattle.std.specs.List.{flat_map, AllByRecursion}
use Rattle.irv.specs.AssertionForms.{numbers_by, assertion_bytes}
use Rattle.irv.specs.Assertions.{nen, Cause, foreign_in, fraction_fits, judged, members_from, members_of}
use Rattle.irv.specs.Ballots.{Slate, member}
use Rattle.irv.specs.Sets.{Set, has}
use Rattle.irv.proofs.Assertions.{none_of, maj_judged, members_are}
use Rattle.assertion.specs.Kinds.{written_kind, top_kind, half_kind}
use Rattle.assertion.specs.Sums.{most_value}
use Rattle.assertion.specs.declared.assertion.Assertion.{Assertion}
use Rattle.assertion.specs.declared.assertion.Assertion.TheVariants.{Neb, Nen, Majority}
use Rattle.audit.specs.Entries.{Line}
use Rattle.audit.specs.Pages.{share, sample, share_of, sample_of, number_line, assertion_line, line_bytes, largest, page}

-- a number of 64 bits
abbrev Small : ℕ → Type 0
Small n = n < 2 ^ 64

short_number : (n : ℕ) → Small n → length (decimal n) ≤ 20
short_number n small = length-decimal-le 20 n (omega arith) (omega arith) small

pub short_line : (key : List ℕ) (n : ℕ) → Small n → length (number_line key n) ≤ length key + 21
short_line key n small = omega (arith, length-append key (decimal n ++ (10 ∷ [])), length-append (decimal n) (10 ∷ []), short_number n small)

-- each number with the byte before it
short_further : (d : ℕ) (vs : List ℕ) → AllByRecursion Small vs → length (flat_map (λ v. d ∷ decimal v) vs) ≤ 21 * length vs
short_further d [] small = omega arith
short_further d (v ∷ vs) small =
    omega (arith, length-append (d ∷ decimal v) (flat_map (λ v. d ∷ decimal v) vs), short_number v small.0, short_further d vs small.1)

short_numbers : (d : ℕ) (vs : List ℕ) → AllByRecursion Small vs → length (numbers_by d vs) ≤ 21 * length vs
short_numbers d [] small = omega arith
short_numbers d (v ∷ vs) small =
    omega (arith, length-append (decimal v) (flat_map (λ v. d ∷ decimal v) vs), short_number v small.0, short_further d vs small.1)

-- candidates have small numbers, and a set has few members
candidates_small : (s : Slate) → s.candidates ≤ 16 → (cs : List ℕ) → foreign_in s cs ≡ None → AllByRecursion Small cs
candidates_small s few [] h = tt
candidates_small s few (c ∷ cs) h = by (candidates_small s few cs) (member s c) refl h
  where
    by : (foreign_in s cs ≡ None → AllByRecursion Small cs) → (b : Bool) → member s c ≡ b → cond b (foreign_in s cs) (Some (Cause.foreign c)) ≡ None → Small c × AllByRecursion Small cs
    by later true e h = (omega (arith, leb-true c s.candidates (and_parts (leb 1 c) (leb c s.candidates) e).1), later h)
    by later false e h = let z : ◌≡◌ {A = ℕ} 0 1 = cc in absurd (omega arith)

few_members : (R : Set) (k n : ℕ) → length (members_from R k n) ≤ n
few_members R k zero = omega arith
few_members R k (suc n) = by (few_members R (k + 1) n) (has R k)
  where
    by : length (members_from R (k + 1) n) ≤ n → (b : Bool) → length (cond b (k ∷ members_from R (k + 1) n) (members_from R (k + 1) n)) ≤ suc n
    by later true = omega arith
    by later false = omega arith

fraction_small : (a b : ℕ) → fraction_fits a b ≡ true → Small a × Small b
fraction_small a b fits =
    let whole = and_parts (leb 2 b) _ fits in
    let rest = and_parts (leb b 1000) _ whole.1 in
    let most = leb-true b 1000 rest.0 in
    let below = ltb-true a b (and_parts (ltb a b) _ rest.1).0 in
    (omega arith, omega arith)

short_nen : (w l : ℕ) (set : List ℕ) → AllByRecursion Small (w ∷ l ∷ set) → length set ≤ 16 → length (assertion_bytes (nen w l set)) ≤ 400
short_nen w l set small most =
    let pair = w ∷ l ∷ [] in
    omega (arith, length-append (numbers_by 44 pair) (44 ∷ numbers_by 43 set), short_numbers 44 pair (small.0, (small.1.0, tt)), short_numbers 43 set small.1.1)

short_assertion : (s : Slate) → s.candidates ≤ 16 → (a : Assertion) → judged s (written_kind a) ≡ None → length (assertion_bytes (written_kind a)) ≤ 400
short_assertion s few (Neb a) fits =
    let vs = a.winner ∷ a.loser ∷ [] in
    let written = short_numbers 44 vs (candidates_small s few vs (none_of (foreign_in s vs) _ fits).0) in omega arith
short_assertion s few (Nen a) fits =
    let R = a.standing in
    let all = a.winner ∷ a.loser ∷ members_of R in
    short_nen a.winner a.loser (members_of R) (candidates_small s few all (none_of (foreign_in s all) _ fits).0) (subst (λ ms. length ms ≤ 16) (sym (members_are R)) (few_members R 1 16))
short_assertion s few (Majority a) fits =
    let winner = candidates_small s few (a.winner ∷ []) (none_of (foreign_in s (a.winner ∷ [])) _ fits).0 in
    let fraction = fraction_small a.part a.whole (maj_judged s a.winner a.part a.whole fits) in
    let written = short_numbers 44 (a.winner ∷ a.part ∷ a.whole ∷ []) (winner.0, (fraction.0, (fraction.1, tt))) in omega arith

-- the figures of a line are numbers of 64 bits
share_small : (half margin ballots : ℕ) → margin ≤ most_value → Small (share half margin ballots)
unfolding share
share_small half margin ballots few = omega (arith, div-le_self (10000 * margin) (half * ballots))

sample_within : (factor top margin ballots : ℕ) → sample factor top margin ballots ≤ ballots
unfolding sample
sample_within factor top margin ballots = min-le_right _ ballots

largest_within : (factor ballots : ℕ) (ls : List Line) → largest (map (sample_of factor ballots) ls) ≤ ballots
largest_within factor ballots [] = omega arith
largest_within factor ballots (l ∷ ls) = omega (arith, sample_within factor (top_kind l.entry.assertion) (nat_abs l.margin) ballots, largest_within factor ballots ls)

-- what keeps a line short
abbrev pub ShortLine : Slate → Line → Type 0
ShortLine s l = (l.entry.number < 2 ^ 64) × ((nat_abs l.margin ≤ most_value) × (judged s (written_kind l.entry.assertion) ≡ None))

module _ (s : Slate) (few : s.candidates ≤ 16) (factor ballots : ℕ) (fit : Small ballots) where
  short_entry : (l : Line) → ShortLine s l → length (assertion_line l.entry) ≤ 432
  short_entry l fine =
      let bytes = assertion_bytes (written_kind l.entry.assertion) in
      omega (
        arith,
        length-append (decimal l.entry.number) (44 ∷ (bytes ++ (10 ∷ []))),
        length-append bytes (10 ∷ []),
        short_number l.entry.number fine.0,
        short_assertion s few l.entry.assertion fine.1.1,
      )

  short_lines : (l : Line) → ShortLine s l → length (line_bytes factor ballots l) ≤ 515
  short_lines l fine =
      let m = nat_abs l.margin in
      let margin = number_line (codes "margin=") m in
      let shares = number_line (codes "share=") (share_of ballots l) in
      let samples = number_line (codes "sample=") (sample_of factor ballots l) in
      let sampled : Small (sample_of factor ballots l) = omega (arith, sample_within factor (top_kind l.entry.assertion) m ballots) in
      omega (
        arith,
        length-append (assertion_line l.entry) (margin ++ (shares ++ samples)),
        length-append margin (shares ++ samples),
        length-append shares samples,
        short_entry l fine,
        short_line (codes "margin=") m (omega (arith, fine.1.0)),
        short_line (codes "share=") (share_of ballots l) (share_small (half_kind l.entry.assertion) m ballots fine.1.0),
        short_line (codes "sample=") (sample_of factor ballots l) sampled,
      )

  pub short_joined : (ls : List Line) → AllByRecursion (ShortLine s) ls → length (flat_map (line_bytes factor ballots) ls) ≤ 515 * length ls
  short_joined [] fine = omega arith
  short_joined (l ∷ ls) fine = omega (arith, length-append (line_bytes factor ballots l) (flat_map (line_bytes factor ballots) ls), short_lines l fine.0, short_joined ls fine.1)

pub short_page : (s : Slate) (winner factor ballots endings : ℕ) (ls : List Line) → s.candidates ≤ 16 → winner < 2 ^ 64 → ballots < 2 ^ 64 → endings < 2 ^ 64 → length ls ≤ 256 → AllByRecursion (ShortLine s) ls → length (page winner factor ballots endings ls) < 2 ^ 32
unfolding page
short_page s winner factor ballots endings ls few winner-fits ballots-fit endings-fit most fine =
    let one = number_line (codes "winner=") winner in
    let two = number_line (codes "ballots=") ballots in
    let three = number_line (codes "endings=") endings in
    let lines = flat_map (line_bytes factor ballots) ls in
    let total = number_line (codes "total=") (largest (map (sample_of factor ballots) ls)) in
    omega (
      arith,
      length-append one (two ++ (three ++ (lines ++ total))),
      length-append two (three ++ (lines ++ total)),
      length-append three (lines ++ total),
      length-append lines total,
      short_line (codes "winner=") winner winner-fits,
      short_line (codes "ballots=") ballots ballots-fit,
      short_line (codes "endings=") endings endings-fit,
      short_joined s few factor ballots ballots-fit ls fine,
      short_line (codes "total=") (largest (map (sample_of factor ballots) ls)) (omega (arith, largest_within factor ballots ls)),
    )
