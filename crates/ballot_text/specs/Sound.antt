-- Why the lines of an opened text make a sound source.
use Rattle.std.specs.Prelude.{◌≡◌, ℕ, List, map, length}
use Rattle.std.proofs.Common.{sym, ap, subst, ◌∙◌, arith}
use Rattle.std.proofs.Math.Logic.{∥∥₁_elim}
use Rattle.std.proofs.Math.Nat.{ℕ_set}
use Rattle.std.proofs.lemmas.List.{length-map}
use Rattle.irv.specs.Ballots.{Slate, slate, Proper, Fits, ballots}
use Rattle.ballot.specs.Sources.{SoundSource}
use Rattle.ballot.proofs.Unique.{sound_once}
use Rattle.forms.specs.Decoded.{decoded}
use Rattle.forms.specs.Texts.{Holds}
use Rattle.forms.specs.Written.{Form, Line, group_of}
use Rattle.forms.proofs.Decoding.{decoded_text}
use Rattle.ballot_text.specs.Readings.{Reading}

-- the groups of the lines that a text holds are those that it decodes to
pub holds_groups : (f : Form) (s : Slate) (bs : List ℕ) (ls : List Line) → Holds f s bs ls → decoded f bs ≡ map group_of ls
holds_groups f s bs ls holds = ap (decoded f) holds.text ∙ decoded_text f ls holds.formed

module _ (f : Form) (n : ℕ) (bs : List ℕ) (sum at place : ℕ) where
  pub reading_groups : (r : Reading f n bs sum at place) → decoded f bs ≡ map group_of r.lines
  reading_groups r = holds_groups f (slate n) bs r.lines r.holds

  pub reading_sound : Proper (slate n) → ∥ Reading f n bs sum at place ∥₁ → SoundSource (slate n) (decoded f bs) place
  reading_sound proper reading =
      ∥∥₁_elim reading (sound_once (slate n) (decoded f bs) place) λ r. record {
        proper = proper;
        fit = subst (Fits (slate n)) (sym (reading_groups r)) r.holds.fit;
        within = omega (arith, ap length (reading_groups r), length-map r.lines group_of, r.within);
      }

  pub reading_sum : ∥ Reading f n bs sum at place ∥₁ → sum ≡ ballots (decoded f bs)
  reading_sum reading = ∥∥₁_elim reading (ℕ_set sum (ballots (decoded f bs))) λ r. r.sum_is ∙ ap ballots (sym (reading_groups r))
