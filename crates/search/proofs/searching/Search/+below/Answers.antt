-- Each turn takes the candidate's part off what is left of the walk.
use Rattle.std.proofs.Common.{◌<◌, length, Ok, sym, ap, ◌∙◌, subst, refl, arith}
use Rattle.irv.specs.Sets.{set_of}
use Rattle.irv.specs.Walks.{may_join, stopped}
use Rattle.search.specs.EndingValues.{listing}
use Rattle.search.specs.Searches.{run_with, SameSearch}
use Rattle.search.proofs.Turning.{Asked, turn, asked, onward_first, onward_skipped, onward_blocked, onward_open, leads_over, leads_full, leads_stopped, leads_survived, run_stops, same_search_more}
use Rattle.search.proofs.searching.Search.+below.Given as given
use Rattle.search.proofs.searching.Search.+below.Goals as goal
use Rattle.search.proofs.searching.Search.+below.Goals.{After-rules_out, After-below, else-loop-candidate-test, then-loop-candidate-test+then-not-may_grow_by+else-candidate-last, then-loop-candidate-test+else-not-may_grow_by+in_ok-count_one+then-rules_out+else-candidate-last-2, then-loop-candidate-test+else-not-may_grow_by+in_ok-count_one+else-rules_out+else-len-last+in_ok-order+in_default+else-candidate-last-3}

pub loop-candidate-init : goal.loop-candidate-init
loop-candidate-init g t c = onward_first g.R.Rule.contest g.R.Rule.ruling g.R.Rule.kept c.args.self.now (listing c.args.ending) g.R.Rule.chains c.requires

pub loop-candidate-preserved-then-not-may_grow_by : goal.loop-candidate-preserved-then-not-may_grow_by
loop-candidate-preserved-then-not-may_grow_by g t c =
    onward_skipped c.loop-candidate.invariant c.candidates-last.ensures c.loop-candidate-test.true (c.may_grow_by.ensures ∙ ap (may_join c.loop-candidate.self.winner (listing c.args.ending)) (omega arith)) c.if-not-may_grow_by.true

pub returns-in_err-count_one-clause-leads : goal.returns-in_err-count_one-clause-leads
returns-in_err-count_one-clause-leads g t c =
    let full = c.in_err-count_one.ensures in
    run_stops c.count_one.new.self.tried c.from_residual.result c.from_residual.ensures.0
    ∙ leads_over (turn c.loop-candidate.invariant c.candidates-last.ensures c.loop-candidate-test.true c.may_grow_by.ensures c.if-not-may_grow_by.false) (omega (arith, c.loop-candidate.invariant.same.same_limit, full.0))

-- what the rule answers of the ending with the candidate
asked_here : (g : given.Over) (t : _) (c : After-rules_out g t) → Asked g.R.Rule.contest g.R.Rule.ruling g.R.Rule.kept c.args.self.now (listing c.args.ending) c.loop-candidate.candidate c.loop-candidate.self (record c.count_one.new.self { rule = record c.count_one.new.self.rule { now = c.rules_out.new.self } }) c.rules_out.result
asked_here g t c = asked c.loop-candidate.invariant c.candidates-last.ensures c.loop-candidate-test.true c.may_grow_by.ensures g.R.Rule.chains c.if-not-may_grow_by.false c.in_ok-count_one.ensures c.rules_out.ensures.same c.rules_out.ensures.value (c.members.ensures ∙ ap set_of c.grown_by-grown.ensures)

pub loop-candidate-preserved-then-rules_out : goal.loop-candidate-preserved-then-rules_out
loop-candidate-preserved-then-rules_out g t c = onward_blocked (asked_here g t (goal.at.loop-candidate-preserved-then-rules_out g t c).After-rules_out) c.if-rules_out.true

pub returns-then-len-last-clause-leads : goal.returns-then-len-last-clause-leads
returns-then-len-last-clause-leads g t c =
    leads_full (asked_here g t (goal.at.returns-then-len-last-clause-leads g t c).After-rules_out) c.if-rules_out.false (listing c.grown_by-grown.result) c.grown_by-grown.ensures
    (omega (arith, c.len.ensures, c.if-len-last.true, ap (λ s. s.candidates) c.candidates-last.ensures))

-- the ending with the candidate has room
short : (g : given.Over) (t : _) (c : After-below g t) → length (listing c.grown_by-grown.result) < (g.R.Rule.contest c.args.self.now.rule.now).candidates
short g t c = omega (arith, ap length c.grown_by-grown.ensures, c.requires, ap (λ s. s.candidates) c.candidates-last.ensures, c.len.ensures, c.if-len-last.false)

pub returns-in_err-order-clause-leads : goal.returns-in_err-order-clause-leads
returns-in_err-order-clause-leads g t c =
    let at = goal.at.returns-in_err-order-clause-leads g t c in
    run_stops c.below.new.self.tried c.from_residual-in_err-order.result c.from_residual-in_err-order.ensures.0
    ∙ leads_stopped (asked_here g t at.After-rules_out) c.if-rules_out.false (listing c.grown_by-grown.result) c.grown_by-grown.ensures (short g t at.After-below) stopped c.in_err-order.ensures.leads refl

pub returns-in_err-order-clause-same : goal.returns-in_err-order-clause-same
returns-in_err-order-clause-same g t c = same_search_more g.R.Rule.chains (asked_here g t (goal.at.returns-in_err-order-clause-same g t c).After-rules_out).same c.below.ensures.same

pub returns-in-Some-clause-leads : goal.returns-in-Some-clause-leads
returns-in-Some-clause-leads g t c =
    let at = goal.at.returns-in-Some-clause-leads g t c in
    leads_survived (asked_here g t at.After-rules_out) c.if-rules_out.false (listing c.grown_by-grown.result) c.grown_by-grown.ensures (short g t at.After-below) (run_with c.below.new.self.tried (Ok c.in_ok-order.field-0)) c.in_ok-order.ensures.leads (listing c.in-Some.order) c.below.new.self.tried
    (ap (λ o. run_with c.below.new.self.tried (Ok o)) c.in-Some.is)

pub returns-in-Some-clause-same : goal.returns-in-Some-clause-same
returns-in-Some-clause-same g t c = same_search_more g.R.Rule.chains (asked_here g t (goal.at.returns-in-Some-clause-same g t c).After-rules_out).same c.below.ensures.same

pub loop-candidate-preserved : goal.loop-candidate-preserved
loop-candidate-preserved g t c =
    let at = goal.at.loop-candidate-preserved g t c in
    onward_open (asked_here g t at.After-rules_out) c.if-rules_out.false (listing c.grown_by-grown.result) c.grown_by-grown.ensures (short g t at.After-below) (run_with c.below.new.self.tried (Ok c.in_ok-order.field-0)) c.in_ok-order.ensures.leads g.R.Rule.chains c.below.new.self c.below.ensures.same
    (ap (λ o. run_with c.below.new.self.tried (Ok o)) c.in_default.is)

pub returns-clause-same : goal.returns-clause-same
returns-clause-same g t c =
    let Same = SameSearch g.R.Rule.contest g.R.Rule.ruling g.R.Rule.kept c.args.self.now in
    let so_far = c.loop-candidate.invariant in
    elim c.loop-candidate-test.branch [
      | else-loop-candidate-test w ↦ subst Same (sym w.self-is) so_far.same
      | then-loop-candidate-test+then-not-may_grow_by+else-candidate-last w ↦ subst Same (sym w.self-is) so_far.same
      | then-loop-candidate-test+else-not-may_grow_by+in_ok-count_one+then-rules_out+else-candidate-last-2 w ↦ subst Same (sym w.self-is) (asked so_far c.candidates-last.ensures w.loop-candidate-test.true w.may_grow_by.ensures g.R.Rule.chains w.if-not-may_grow_by.false w.in_ok-count_one.ensures w.rules_out.ensures.same w.rules_out.ensures.value (w.members.ensures ∙ ap set_of w.grown_by-grown.ensures)).same
      | then-loop-candidate-test+else-not-may_grow_by+in_ok-count_one+else-rules_out+else-len-last+in_ok-order+in_default+else-candidate-last-3 w ↦ subst Same (sym w.self-is) (same_search_more g.R.Rule.chains (asked so_far c.candidates-last.ensures w.loop-candidate-test.true w.may_grow_by.ensures g.R.Rule.chains w.if-not-may_grow_by.false w.in_ok-count_one.ensures w.rules_out.ensures.same w.rules_out.ensures.value (w.members.ensures ∙ ap set_of w.grown_by-grown.ensures)).same w.below.ensures.same)
    ]
