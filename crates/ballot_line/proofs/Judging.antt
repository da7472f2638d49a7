-- A well-formed line is refused for its count, or, where that is right, at its first wrong candidate.
use Rattle.std.proofs.Common.{◌≡◌, ℕ, ◌≤◌, false, ◌&&◌, List, length, drop, refl, arith}
use Rattle.std.specs.Ordering.{is_le, nat_cmp}
use Rattle.std.proofs.lemmas.Bool.Decides.{nat_tests}
use Rattle.fixed_list.specs.Lists.{listed}
use Rattle.irv.specs.Ballots.{Slate}
use Rattle.ballot.specs.declared.refusal.Refusal.TheVariants.{CountOutOfRange}
use Rattle.forms.specs.Texts.{Counts, bad_count, bad_candidate}
use Rattle.forms.specs.Written.{Form}
use Rattle.ballot_line.specs.Faults.{WrongNumber, FaultyLine}
use Rattle.ballot_line.specs.Lines.{field_bytes, line_of, ReadsLine}
use Rattle.ballot_line.specs.declared.judge.LineFault.{LineFault}
use Rattle.ballot_line.specs.declared.line.LineRead.{LineRead}

pub wrong_candidate : (f : Form) (s : Slate) (sum : ℕ) (bs : List ℕ) (r : LineRead) (e : LineFault) → ReadsLine f bs r → Counts sum (line_of r) → WrongNumber s (length (field_bytes r.first)) (listed r.numbers) e → FaultyLine f s sum bs e
wrong_candidate f s sum bs r e read counts wrong = record {
  cause = bad_candidate;
  named = wrong.cause;
  refused = λ some. (
    line_of r,
    wrong.ok,
    record { formed = read.formed; more = drop r.length bs; split = read.split },
    counts,
    record { wrong = wrong.wrong; later = wrong.later; split = wrong.split; right = wrong.right; fault = wrong.fault },
    wrong.byte,
  );
}

pub wrong_count : (f : Form) (s : Slate) (sum : ℕ) (bs : List ℕ) (r : LineRead) → ReadsLine f bs r → (Counts sum (line_of r) → ⊥) → FaultyLine f s sum bs (record { cause = CountOutOfRange; byte = 1 })
wrong_count f s sum bs r read wrong = record {
  cause = bad_count;
  named = refl;
  refused = λ some. (line_of r, record { formed = read.formed; more = drop r.length bs; split = read.split }, wrong, refl);
}

-- a number that is not within a range is below or above it
pub not_within : (low high n : ℕ) → false ≡ (is_le (nat_cmp low n) && is_le (nat_cmp n high)) → low ≤ n → n ≤ high → ⊥
not_within low high n out above below = grind (arith, nat_tests)
