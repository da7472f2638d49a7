-- The steps that lead to the winner have the tables of a count.
use Rattle.std.proofs.Common.{◌≡◌, ℕ, false, ltb, List, [], ◌∷◌, sym, ◌∙◌, subst}
use Rattle.std.proofs.lemmas.Bool.{and_right}
use Rattle.irv.specs.Sets.{Set, set_of}
use Rattle.irv.specs.Ballots.{Slate, mem, BallotGroup}
use Rattle.irv.specs.Tables.{shown, Shows}
use Rattle.irv.proofs.Bits.{listed}
use Rattle.irv.proofs.Tallies.{out_has_none}
use Rattle.irv.proofs.Paths.{Leads, path_set}
use Rattle.elimination.specs.Counts.{order_of, Tabled}
use Rattle.elimination.specs.declared.count_step.CountStep.{CountStep}

abbrev pub outs : CountStep → ℕ
outs x = x.out

abbrev pub tables : CountStep → List ℕ
tables x = x.tallies.counts

-- who is not in the list has no ballots while those in it stand
none_shown : (s : Slate) (gs : List BallotGroup) (o : List ℕ) (ts : List ℕ) → Shows s gs (set_of o) ts → (c : ℕ) → mem c o ≡ false → shown ts c ≡ 0
none_shown s gs o ts table c out = table c ∙ out_has_none s gs (set_of o) c (listed o c ∙ and_right (ltb 0 c) (mem c o) out)

pub tabled : (s : Slate) (gs : List BallotGroup) (R : Set) (xs : List CountStep) (Q : Set) (w : ℕ) → Leads outs tables s gs R xs Q → set_of (w ∷ []) ≡ Q → Tabled s gs xs w
tabled s gs R [] Q w path e = tt
tabled s gs R (x ∷ xs) Q w path e =
    let table : Shows s gs (set_of (order_of (x ∷ xs) w)) x.tallies.counts = subst (λ S. Shows s gs S x.tallies.counts) (sym (path_set outs tables s gs R (x ∷ xs) Q (w ∷ []) path e)) path.1.0.table in
    (table, (none_shown s gs (order_of (x ∷ xs) w) x.tallies.counts table, tabled s gs path.0 xs Q w path.1.1 e))
