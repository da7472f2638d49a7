-- The record is fine, since no cause was found.
use Rattle.std.proofs.Common.{◌≡◌, true, vec_items, sym, refl, ap, ◌∙◌}
use Rattle.std.proofs.lemmas.Bool.{and_from}
use Rattle.irv.specs.Ballots.{slate}
use Rattle.audit.specs.Calls.{fresh}
use Rattle.dossier.specs.Fine.{fits, fine_record, all_fine}
use Rattle.dossier.proofs.Keeping.{fits_so, fine_push}
use Rattle.dossier.proofs.dossier.Dossier.enter.Goals as goal

pub invariant_of-self-clause-fine : goal.invariant_of-self-clause-fine
invariant_of-self-clause-fine c =
    let s = slate c.args.self.now.contest.candidates in
    let one : fine_record s (fresh c.args.assertion) ≡ true = and_from (fits s c.args.assertion) true (fits_so s c.args.assertion (sym c.in_ok-judge.ensures)) refl in
    let all : all_fine s (vec_items c.push_reserved.new.self) ≡ true = ap (all_fine s) c.push_reserved.ensures.items ∙ fine_push s (vec_items c.args.self.now.records) (fresh c.args.assertion) c.args.self.now.fine one in
    all
