-- One record is ended, and stays fine.
use Rattle.std.proofs.Common.{◌≡◌, ◌-◌, true, set, vec_items, sym, ap, ◌∙◌, arith}
use Rattle.irv.specs.Ballots.{slate}
use Rattle.audit.specs.Calls.{ended, changed_at, answered}
use Rattle.audit.specs.States.{unless_so}
use Rattle.ballot.specs.declared.refusal.Refusal.TheVariants.{NumberNotLive}
use Rattle.audit.specs.declared.stage.Stage.TheVariants.{Plain}
use Rattle.dossier.specs.Dossiers.{state, at_stage}
use Rattle.dossier.specs.Fine.{fine_record}
use Rattle.dossier.proofs.Keeping.{fine_at, fine_set, set_changed}
use Rattle.dossier.proofs.dossier.Dossier.withdraw.Goals as goal

pub invariant_of-self-clause-fine : goal.invariant_of-self-clause-fine
invariant_of-self-clause-fine c =
    let s = slate c.args.self.now.contest.candidates in
    let rs = vec_items c.args.self.now.records in
    let i = c.in_ok-place.place in
    let here : fine_record s c.index_mut.result.now ≡ true = ap (fine_record s) c.index_mut.ensures.value ∙ fine_at s rs i c.index_mut.result.now c.in_ok-place.ensures.1.1 c.args.self.now.fine in
    fine_set s rs i _ c.args.self.now.fine here

pub returns : goal.returns
returns c =
    let rs = vec_items c.args.self.now.records in
    let i = c.in_ok-place.place in
    let live = c.in_ok-place.ensures in
    let number : i ≡ c.args.number - 1 = omega (arith, live.1.0) in
    let done : set rs i (ended c.index_mut.result.now) ≡ changed_at ended (c.args.number - 1) rs = ap (λ r. set rs i (ended r)) c.index_mut.ensures.value ∙ set_changed ended rs i c.index_mut.result.now live.1.1 ∙ ap (λ j. changed_at ended j rs) number in
    record {
      shown = tt;
      reply = sym (ap (λ b. answered (unless_so b NumberNotLive) tt) live.0);
      after_is = c.go_on.ensures ∙ (let s = at_stage Plain (state c.args.self.now) in ap (λ qs. record s { records = qs }) done);
    }
