-- Why where the whole walk leads is the answer of a search.
use Rattle.std.proofs.Common.{◌≡◌, ℕ, ◌-◌, List, [], length, Option, sym, refl, ap, ◌∙◌, subst, arith}
use Rattle.irv.specs.Ballots.{Slate}
use Rattle.irv.specs.Endings.{Ruling}
use Rattle.irv.specs.Walks.{going, walk, is_survivor, run, run_below}
use Rattle.irv.proofs.Counted.{Ends, ends}
use Rattle.irv.proofs.Searching.{first_found, endings_tried, finds_first, tries_these}
use Rattle.irv.proofs.Walk.{all_endings}
use Rattle.search.specs.Rules.{SoundRule}
use Rattle.search.specs.Searches.{run_of, Tells, Searched}
use Rattle.search.specs.declared.answer.Answer.{Answer}
use Rattle.search.specs.declared.answer.Answer.TheVariants.{Stopped, Found, NoSurvivor}

tells : (limit : ℕ) (found : Option (List ℕ)) (k : ℕ) (a : Answer) → Ends limit found k (run_of a) → Tells limit found k a
tells limit found k Stopped h = h
tells limit found k (Found e n) h = h
tells limit found k (NoSurvivor n) h = h

pub searched : (s : Slate) (r : Ruling) (w limit : ℕ) (a : Answer) → SoundRule s r → run_of a ≡ run_below r w s.candidates limit [] 0 → Searched s r w limit a
searched s r w limit a sound leads =
    let n : s.candidates - 0 ≡ s.candidates = omega arith in
    let whole : run_of a ≡ run (is_survivor r s.candidates) limit (going 0) (all_endings s r w) = leads ∙ ap (λ k. run (is_survivor r s.candidates) limit (going 0) (walk r w s.candidates k [])) n in
    record {
      found = first_found s r w;
      first = finds_first s r w sound.proper sound.only_steps;
      k = length (endings_tried s r w);
      tried = record { endings = endings_tried s r w; listed = tries_these s r w; count = refl };
      reply = tells limit (first_found s r w) (length (endings_tried s r w)) a (subst (Ends limit (first_found s r w) (length (endings_tried s r w))) (sym whole) (ends (is_survivor r s.candidates) limit (all_endings s r w)));
    }
