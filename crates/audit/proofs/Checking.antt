-- A check is exact, and has one reply only.
use Rattle.std.proofs.Common.{◌≡◌, ℕ, ◌<◌, ◌≤◌, leb, List, Some, None, Ok, Err, Option, Result, sym, refl, ap, ◌∙◌, subst, arith}
use Rattle.std.proofs.lemmas.Bool.{false≢true, and_from, le-leb}
use Rattle.irv.specs.Ballots.{Slate}
use Rattle.irv.specs.Endings.{Ruling, Survivor, FirstStanding, EndingsTried}
use Rattle.irv.specs.Assertions.{rules_any}
use Rattle.irv.proofs.Searching.{one_survivor, one_count}
use Rattle.ballot.specs.declared.refusal.Refusal.{Refusal}
use Rattle.audit.specs.Entries.{Entry, rules_of_entries, live_ruling}
use Rattle.audit.specs.States.{Standing}
use Rattle.audit.specs.Calls.{Finding, accepts, rejects, stops, Says, Finds, CheckReply, most_endings}
use Rattle.audit.specs.Laws.{ChecksExactly}
use Rattle.audit.proofs.Limiting.{first_limited}

-- two findings at the same limit are the same
same_said : (limit : ℕ) (found : Option (List ℕ)) (k : ℕ) (f g : Finding) → Says limit found k f → Says limit found k g → f ≡ g
same_said limit found k (accepts m) (accepts n) p q = ap accepts (p.1.0 ∙ sym q.1.0)
same_said limit found k (accepts m) (rejects o n) p q =
    let a = p.0 in
    let b = q.0 in
    let z : ◌≡◌ {A = ℕ} 0 1 = cc in absurd (omega arith)
same_said limit found k (accepts m) stops p q = absurd (omega (arith, p.1.1))
same_said limit found k (rejects o m) (accepts n) p q =
    let a = p.0 in
    let b = q.0 in
    let z : ◌≡◌ {A = ℕ} 0 1 = cc in absurd (omega arith)
same_said limit found k (rejects o m) (rejects p n) u v =
    let a = u.0 in
    let b = v.0 in
    let e : o ≡ p = cc in ap (λ x. rejects x m) e ∙ ap (rejects p) (u.1.0 ∙ sym v.1.0)
same_said limit found k (rejects o m) stops p q = absurd (omega (arith, p.1.1))
same_said limit found k stops (accepts n) p q = absurd (omega (arith, q.1.1))
same_said limit found k stops (rejects o n) p q = absurd (omega (arith, q.1.1))
same_said limit found k stops stops p q = refl

pub one_finding : (s : Slate) (r : Ruling) (w limit : ℕ) (f g : Finding) → Finds s r w limit f → Finds s r w limit g → f ≡ g
one_finding s r w limit f g p q =
    let founds : p.found ≡ q.found = one_survivor s r w p.found q.found p.first q.first in
    let counts : p.k ≡ q.k = one_count s r w q.found p.k q.k (subst (λ x. EndingsTried s r w x p.k) founds p.tried) q.tried in
    same_said limit q.found q.k f g (subst (λ x. Says limit q.found x f) counts (subst (λ x. Says limit x p.k f) founds p.said)) q.said

pub one_check : (st : Standing) (limit : ℕ) (r q : Result Finding Refusal) → CheckReply st limit r → CheckReply st limit q → r ≡ q
one_check st limit (Ok f) (Ok g) p q = ap Ok (one_finding _ _ _ limit f g p.1 q.1)
one_check st limit (Ok f) (Err e) p q = absurd (false≢true (sym q.0 ∙ p.0))
one_check st limit (Err e) (Ok g) p q = absurd (false≢true (sym p.0 ∙ q.0))
one_check st limit (Err e) (Err d) p q = ap Err (p.1 ∙ sym q.1)

never : {X : Type 0} (a b : Result Finding Refusal) → a ≡ b → (a ≡ b → ◌≡◌ {A = ℕ} 0 1) → X
never a b is not_so = let z : ◌≡◌ {A = ℕ} 0 1 = not_so is in absurd (omega arith)

module _ (s : Slate) (es : List Entry) (w limit : ℕ) where
  abbrev R : Ruling
  R = rules_any (rules_of_entries es)

  exact : (f : Finding) → Finds s (live_ruling s es) w limit f → ChecksExactly s es w limit (Ok f)
  exact (accepts n) fs =
      let first : FirstStanding s R w fs.found = first_limited s R w fs.found fs.first in
      let none : FirstStanding s R w None = subst (FirstStanding s R w) fs.said.0 first in
      let count : n ≡ fs.k = fs.said.1.0 in
      let within : fs.k ≤ limit = fs.said.1.1 in
      record {
        found = fs.found;
        first = first;
        k = fs.k;
        tried = fs.tried;
        stopped = (λ over. absurd (omega arith), λ is. never _ _ is (λ e. cc));
        accepted = (λ low all. ap (λ x. Ok (accepts x)) count, λ m is. (let e : m ≡ n = cc in e ∙ count, (within, none)));
        rejected = (λ low o sv. absurd (none o sv.alternative sv.stands), λ o m is. never _ _ is (λ e. cc));
      }
  exact (rejects p n) fs =
      let first : FirstStanding s R w fs.found = first_limited s R w fs.found fs.first in
      let some : FirstStanding s R w (Some p) = subst (FirstStanding s R w) fs.said.0 first in
      let count : n ≡ fs.k = fs.said.1.0 in
      let within : fs.k ≤ limit = fs.said.1.1 in
      record {
        found = fs.found;
        first = first;
        k = fs.k;
        tried = fs.tried;
        stopped = (λ over. absurd (omega arith), λ is. never _ _ is (λ e. cc));
        accepted = (λ low all. absurd (all p some.alternative some.stands), λ m is. never _ _ is (λ e. cc));
        rejected = (
          λ low o sv. let same : Some p ≡ Some o = one_survivor s R w (Some p) (Some o) some sv in let e : p ≡ o = cc in ap (λ x. Ok (rejects x n)) e ∙ ap (λ x. Ok (rejects o x)) count,
          λ o m is. (let e : m ≡ n = cc in e ∙ count, (within, let e : p ≡ o = cc in subst (Survivor s R w) e some)),
        );
      }
  exact stops fs =
      let over : limit < fs.k = fs.said in
      record {
        found = fs.found;
        first = first_limited s R w fs.found fs.first;
        k = fs.k;
        tried = fs.tried;
        stopped = (λ _. refl, λ _. over);
        accepted = (λ low all. absurd (omega arith), λ m is. never _ _ is (λ e. cc));
        rejected = (λ low o sv. absurd (omega arith), λ o m is. never _ _ is (λ e. cc));
      }

pub checks_exactly : (st : Standing) (limit : ℕ) (r : Result Finding Refusal) → 1 ≤ limit → limit ≤ most_endings → CheckReply st limit r → ChecksExactly st.opening.slate st.live st.opening.winner limit r
checks_exactly st limit (Ok f) low high p = exact st.opening.slate st.live st.opening.winner limit f p.1
checks_exactly st limit (Err e) low high p = absurd (false≢true (sym p.0 ∙ and_from (leb 1 limit) (leb limit most_endings) (le-leb 1 limit low) (le-leb limit most_endings high)))
