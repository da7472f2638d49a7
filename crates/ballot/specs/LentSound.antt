-- Why lent groups of one contest make a sound source.
use Rattle.std.specs.Prelude.{◌≡◌, ℕ, ◌≤◌, true, ◌&&◌, List, [], ◌∷◌, map, length, ◌==◌, nat_le, refl}
use Rattle.std.proofs.Common.{subst, arith}
use Rattle.std.proofs.lemmas.List.{length-map}
use Rattle.std.proofs.lemmas.Bool.{and_parts, and_from, eqb-true, le-leb}
use Rattle.irv.specs.Ballots.{slate, ranks, all_fit, ballots, most_ballots, Proper}
use Rattle.ballot.specs.Sources.{SoundSource}
use Rattle.ballot.specs.Values.{group_value, all_of_contest, ranked}
use Rattle.ballot.specs.declared.group.Group.{Group}

fits_one : (n : ℕ) (g : Group) → (g.ranking.candidates == n) ≡ true → (ranks (slate n) (ranked g.ranking) && nat_le 1 g.count) ≡ true
fits_one n g same =
    and_from _ (nat_le 1 g.count) (subst (λ m. ranks (slate m) (ranked g.ranking) ≡ true) (eqb-true g.ranking.candidates n same) g.ranking.fits) (le-leb 1 g.count g.some)

pub all_fit_contest : (n : ℕ) (gs : List Group) → all_of_contest n gs ≡ true → all_fit (slate n) (map group_value gs) ≡ true
all_fit_contest n [] h = refl
all_fit_contest n (g ∷ gs) h =
    let parts = and_parts (g.ranking.candidates == n) (all_of_contest n gs) h in
    and_from _ (all_fit (slate n) (map group_value gs)) (fits_one n g parts.0) (all_fit_contest n gs parts.1)

pub lent_sound : (n ballots' place : ℕ) (gs : List Group) → Proper (slate n) → all_of_contest n gs ≡ true → ballots' ≡ ballots (map group_value gs) → ballots' ≤ most_ballots → place ≤ length gs → SoundSource (slate n) (map group_value gs) place
lent_sound n ballots' place gs proper one sum few within = record {
  proper = proper;
  fit = record { groups = all_fit_contest n gs one; sum = omega arith };
  within = omega (arith, length-map gs group_value);
}
