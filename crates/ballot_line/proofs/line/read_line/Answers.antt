use Rattle.std.proofs.Common.{◌≡◌, ◌-◌, length, rules, sym, subst}
use Rattle.forms.specs.Languages.{Breaks}
use Rattle.forms.specs.Written.{LineOf}
use Rattle.forms.proofs.Breaking.{breaks_at}
use Rattle.ballot_line.specs.Forms.{form_of}
use Rattle.ballot_line.proofs.Mapping.{mapped_err}
use Rattle.ballot_line.proofs.line.read_line.Goals as goal

pub returns : goal.returns
returns c = mapped_err (λ rest i is broken.
    let e : i ≡ length c.args.left.now - length rest.now = search rules in
    subst (Breaks (LineOf (form_of c.args.form)) c.args.left.now) (sym e) (breaks_at _ _ _ broken)) _ c.take_line.result c.map_err.result c.map_err.ensures.cases c.take_line.ensures
