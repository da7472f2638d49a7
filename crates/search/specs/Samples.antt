-- Two rules of a contest of three: one rules out nothing, and the other that 1 goes out of a set that holds 2.
use Rattle.std.specs.Prelude.{◌≡◌, ℕ, true, false, ◌&&◌, ◌||◌, List, [], ◌∷◌, ◌==◌, nat_lt, refl}
use Rattle.std.proofs.Common.{sym, subst, ◌∙◌, ⊎_elim, arith}
use Rattle.std.proofs.lemmas.Bool.{and_parts, or_cases, eqb-true, false≢true}
use Rattle.irv.specs.Sets.{Set, set_of}
use Rattle.irv.specs.Ballots.{Slate, slate, mem, ranks}
use Rattle.irv.specs.Endings.{Ruling, IsStep}
use Rattle.irv.proofs.Bits.{listed}
use Rattle.irv.proofs.Lists.{all_members, in_set}
use Rattle.search.specs.Rules.{SoundRule}

abbrev pub three : Slate
three = slate 3

abbrev pub nothing_out : Ruling
nothing_out R c = false

pub nothing_out_sound : SoundRule three nothing_out
nothing_out_sound = record { proper = (omega arith, omega arith); only_steps = λ R c out. absurd (false≢true out) }

-- the sets that hold 1 and 2
abbrev pub pair : Set
pair = set_of (2 ∷ 1 ∷ [])

abbrev pub trio : Set
trio = set_of (3 ∷ 2 ∷ 1 ∷ [])

abbrev pub one_stays : Ruling
one_stays R c = c == 1 && (R == pair || R == trio)

step_of : (cs : List ℕ) → ranks three cs ≡ true → mem 1 cs ≡ true → mem 2 cs ≡ true → IsStep three (set_of cs) 1
step_of cs h one two = record {
  stands = in_set three 1 cs refl one;
  other = (2, in_set three 2 cs refl two, λ same. omega arith);
  members = λ d in'. all_members three cs h d (and_parts (nat_lt 0 d) (mem d cs) (sym (listed cs d) ∙ in')).1;
}

pub one_stays_sound : SoundRule three one_stays
one_stays_sound = record {
  proper = (omega arith, omega arith);
  only_steps = λ R c out.
      let parts = and_parts (c == 1) (R == pair || R == trio) out in
      subst (IsStep three R) (sym (eqb-true c 1 parts.0))
      (⊎_elim (λ is. subst (λ S. IsStep three S 1) (sym (eqb-true R pair is)) (step_of (2 ∷ 1 ∷ []) refl refl refl)) (λ is. subst (λ S. IsStep three S 1) (sym (eqb-true R trio is)) (step_of (3 ∷ 2 ∷ 1 ∷ []) refl refl refl)) (or_cases (R == pair) (R == trio) parts.1));
}
