-- The laws of every history, put together.
use Rattle.std.proofs.Common.{◌≡◌, ℕ, ◌+◌, ◌-◌, ◌*◌, ◌<◌, ◌≤◌, sym, ◌∙◌, mod-lt, div-lt_iff_lt-mul, add-mul, one-mul, div-add-mod', arith}
use Rattle.audit.specs.Pages.{rounded_up}
use Rattle.audit.specs.States.{Standing}
use Rattle.audit.specs.Calls.{Call, enters, withdraws, checks, tallies, plans, ReplyTo, Replies}
use Rattle.audit.specs.Histories.{events, standing_by}
use Rattle.audit.specs.Laws.{EveryHistory}
use Rattle.audit.proofs.Following.{follows, replies}
use Rattle.audit.proofs.Checking.{one_check, checks_exactly}
use Rattle.audit.proofs.Living.{live_from, live_to}
use Rattle.audit.proofs.Numbers.{number_new, names_lowest}
use Rattle.audit.proofs.Sample.{some_plan}
use Rattle.audit.proofs.Planning.{shows, cannot_lose}

one_reply : (st : Standing) (call : Call) (r q : ReplyTo call) → Replies st call r → Replies st call q → r ≡ q
one_reply st (enters a) r q p e = p ∙ sym e
one_reply st (withdraws n) r q p e = p ∙ sym e
one_reply st (checks limit) r q p e = one_check st limit r q p e
one_reply st (tallies s gs) r q p e = p ∙ sym e
one_reply st (plans room) r q p e = p ∙ sym e

rounds_up : (x d : ℕ) → 1 ≤ d → (x ≤ rounded_up x d * d) × ((q : ℕ) → x ≤ q * d → rounded_up x d ≤ q)
unfolding rounded_up
rounds_up x d some =
    (omega (arith, div-add-mod' (x + (d - 1)) d, mod-lt (x + (d - 1)) {m = d} some), λ q enough. let less : x + (d - 1) < (q + 1) * d = omega (arith, add-mul q 1 d, one-mul d) in omega (arith, (div-lt_iff_lt-mul {k = d} {x = x + (d - 1)} {y = q + 1} some).1 less))

pub every_history : EveryHistory
every_history = record {
  follows = follows;
  replies = replies;
  one_reply = one_reply;
  live_means = λ h n a. (live_from (events h) n a, live_to (events h) n a);
  number_new = number_new;
  check_exact = λ o ts s t limit r low high run ans. checks_exactly (standing_by o (events ts)) limit r low high (replies o ts s t (checks limit) r run ans);
  plan_shows = shows;
  names_lowest = names_lowest;
  no_plan_for_a_loser = cannot_lose;
  some_plan = some_plan;
  rounds_up = rounds_up;
}
