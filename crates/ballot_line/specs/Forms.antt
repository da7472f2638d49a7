-- The forms of texts, and which form a name names.
use Rattle.std.specs.Prelude.{◌≡◌, ℕ, List, Result, MatchResult, codes}
use Rattle.forms.specs.Written.{Form, row_lines, group_lines}
use Rattle.ballot_line.specs.declared.form.TextForm.{TextForm}
use Rattle.ballot_line.specs.declared.form.TextForm.TheVariants.{Rows, Groups}
use Rattle.ballot_line.specs.declared.form.UnknownForm.{UnknownForm}

abbrev pub form_of : TextForm → Form
form_of Rows = row_lines
form_of Groups = group_lines

abbrev pub form_name : TextForm → List ℕ
form_name Rows = codes "rows"
form_name Groups = codes "groups"

-- the form that the text names, or an error where it names none
abbrev pub NamesForm : List ℕ → Result TextForm UnknownForm → Type 0
NamesForm text r = MatchResult r (λ form. text ≡ form_name form) (λ e. (form : TextForm) → text ≡ form_name form → ⊥)
