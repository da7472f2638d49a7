-- What was taken off the rest of a slice, said of the text's own bytes; and where there is no error.
use Rattle.std.proofs.Common.{◌≡◌, ℕ, List, Result, Ok, Err, IsOk, MatchResult, length, drop, slice_range, rules, ap, ◌∙◌, subst}
use Rattle.std.proofs.lemmas.List.{take_rest}
use Rattle.irv.specs.Ballots.{Slate}
use Rattle.forms.specs.Languages.{Breaks}
use Rattle.forms.specs.Written.{Form, LineOf}
use Rattle.ballot_line.specs.Faults.{TakesGroup, FaultyLine}
use Rattle.ballot_line.specs.Forms.{form_of}
use Rattle.ballot_line.specs.Lines.{ReadsLine}
use Rattle.ballot_line.specs.declared.form.TextForm.{TextForm}
use Rattle.ballot_line.specs.declared.line.LineRead.{LineRead}
use Rattle.ballot_line.specs.declared.judge.GroupRead.{GroupRead}
use Rattle.ballot_line.specs.declared.judge.LineFault.{LineFault}

module _ (form : TextForm) (f : Form) (s : Slate) (sum at : ℕ) (text bs : List ℕ) where
  pub taken : (read : GroupRead) → form_of form ≡ f → text ≡ bs → TakesGroup (form_of form) s sum (slice_range text at (length text)) read → TakesGroup f s sum (drop at bs) read
  taken read named same took = subst (λ h. TakesGroup h s sum (drop at bs) read) named (subst (λ l. TakesGroup (form_of form) s sum l read) (take_rest text at ∙ ap (drop at) same) took)

  pub faulty : (e : LineFault) → form_of form ≡ f → text ≡ bs → FaultyLine (form_of form) s sum (slice_range text at (length text)) e → FaultyLine f s sum (drop at bs) e
  faulty e named same fault = subst (λ h. FaultyLine h s sum (drop at bs) e) named (subst (λ l. FaultyLine (form_of form) s sum l e) (take_rest text at ∙ ap (drop at) same) fault)

module _ (form : TextForm) (f : Form) (at : ℕ) (text bs : List ℕ) where
  pub read : (line : LineRead) → form_of form ≡ f → text ≡ bs → ReadsLine (form_of form) (slice_range text at (length text)) line → ReadsLine f (drop at bs) line
  read line named same reads = subst (λ h. ReadsLine h (drop at bs) line) named (subst (λ l. ReadsLine (form_of form) l line) (take_rest text at ∙ ap (drop at) same) reads)

  pub broken : (i : ℕ) → form_of form ≡ f → text ≡ bs → Breaks (LineOf (form_of form)) (slice_range text at (length text)) i → Breaks (LineOf f) (drop at bs) i
  broken i named same breaks = subst (λ h. Breaks (LineOf h) (drop at bs) i) named (subst (λ l. Breaks (LineOf (form_of form)) l i) (take_rest text at ∙ ap (drop at) same) breaks)

pub never_err : {T E : Type 0} (P : T → Type 0) (Q : E → Type 0) (r : Result T E) → MatchResult r P Q → ((e : E) → Q e → ⊥) → IsOk r
never_err P Q (Ok x) h none = search rules
never_err P Q (Err e) h none = absurd (none e h)
