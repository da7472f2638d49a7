-- The turns of a search below one ending: what is left after each leads where the whole of it leads.
use Rattle.std.specs.Prelude.{Option, Result, IsErr}
use Rattle.std.proofs.Common.{◌≡◌, ℕ, ◌+◌, ◌<◌, ◌≤◌, Bool, true, false, List, ◌∷◌, length, Ok, Err, sym, ap, ◌∙◌, subst, refl, arith}
use Rattle.std.proofs.lemmas.Bool.{both_ways}
use Rattle.irv.specs.Sets.{Set, set_of}
use Rattle.irv.specs.Ballots.{Slate, slate}
use Rattle.irv.specs.Endings.{Ruling}
use Rattle.irv.specs.Walks.{Run, going, stopped, survived, may_join, run_below}
use Rattle.irv.proofs.Turns.{Left, left_all, left_skipped, left_over, left_blocked, left_full, left_open, left_open_stopped, left_open_survived}
use Rattle.search.specs.Rules.{Chains, SameRule, same_rule_none, same_rule_more}
use Rattle.search.specs.Searches.{run_with, SameSearch}
use Rattle.search.specs.declared.ending.Ending.{Ending}
use Rattle.search.specs.declared.searching.LimitReached.{LimitReached}
use Rattle.search.specs.declared.searching.Search.{Search}

-- where an error came, the search stopped
pub run_stops : (tried : ℕ) (r : Result (Option Ending) LimitReached) → IsErr r → run_with tried r ≡ stopped
run_stops tried (Ok found) err = absurd (both_ways false refl err)
run_stops tried (Err limit_reached) err = refl

module _ {X : Type 0} (contest : X → Slate) (ruling : X → Ruling) (kept : X → X → Type 0) where
  -- where a search leads that goes on from x with the endings below e
  abbrev pub run_from : Search X → List ℕ → Run
  run_from x e = run_below (ruling x.rule.now) x.winner (contest x.rule.now).candidates x.limit e x.tried

  -- the search came from x to y, and the candidates from i on lead from there where all of them lead from x
  pub record Onward (x : Search X) (e : List ℕ) (i : ℕ) (y : Search X) : Type 0 where
    pub same : SameSearch contest ruling kept x y
    pub left : Left (ruling x.rule.now) x.winner (contest x.rule.now).candidates x.limit e x.tried i y.tried

  -- the turn of candidate i, who may join e
  pub record Turn (x : Search X) (e : List ℕ) (i : ℕ) (y : Search X) : Type 0 where
    pub so_far : Onward x e i y
    pub more : i < (contest x.rule.now).candidates + 1
    pub may : may_join x.winner e i ≡ true

  -- in that turn the search comes to z: it counts the ending with i and asks the rule about it, which answers out
  pub record Asked (x : Search X) (e : List ℕ) (i : ℕ) (y z : Search X) (out : Bool) : Type 0 where
    pub turn : Turn x e i y
    pub under : y.tried < x.limit
    pub count : z.tried ≡ y.tried + 1
    pub same : SameSearch contest ruling kept x z
    pub answer : ruling x.rule.now (set_of (i ∷ e)) i ≡ out

module _ {X : Type 0} {contest : X → Slate} {ruling : X → Ruling} {kept : X → X → Type 0} where
  pub same_search_more : Chains kept → {x y z : Search X} → SameSearch contest ruling kept x y → SameSearch contest ruling kept y z → SameSearch contest ruling kept x z
  same_search_more chains {x} {y} {z} p q = record {
    same_lender = q.same_lender ∙ p.same_lender;
    same_rule = same_rule_more contest ruling kept chains x.rule.now y.rule.now z.rule.now p.same_rule q.same_rule;
    same_winner = q.same_winner ∙ p.same_winner;
    same_limit = q.same_limit ∙ p.same_limit;
  }

  -- by what the ending answers of candidate i, of candidates up to last
  module _ {x y : Search X} {e : List ℕ} {i last : ℕ} {may : Bool} (so_far : Onward contest ruling kept x e i y) (many : slate last ≡ contest x.rule.now) (more : i ≤ last) (told : may ≡ may_join y.winner e i) where
    before : i < (contest x.rule.now).candidates + 1
    before = omega (arith, ap (λ s. s.candidates) many)

    joins : may_join x.winner e i ≡ may
    joins = sym (told ∙ ap (λ w. may_join w e i) so_far.same.same_winner)

    pub turn : may ≡ true → Turn contest ruling kept x e i y
    turn can = record { so_far = so_far; more = before; may = joins ∙ can }

    -- w is y with one ending more counted, v the rule after the question about the set of that ending, and out its answer
    pub asked : Chains kept → may ≡ true → {w : Search X} → (y.tried < y.limit) × (w ≡ record y { tried = y.tried + 1 }) → {v : X} {R : Set} {out : Bool} → SameRule contest ruling kept w.rule.now v → out ≡ ruling w.rule.now R i → R ≡ set_of (i ∷ e) → Asked contest ruling kept x e i y (record w { rule = record w.rule { now = v } }) out
    asked chains can {w} counted {v} {R} same value members = record {
      turn = turn can;
      under = omega (arith, so_far.same.same_limit, counted.0);
      count = ap (λ s. s.tried) counted.1;
      same = same_search_more chains so_far.same (record {
        same_lender = ap (λ s. s.rule.ghost_name) counted.1;
        same_rule = subst (λ s. SameRule contest ruling kept s.rule.now v) counted.1 same;
        same_winner = ap (λ s. s.winner) counted.1;
        same_limit = ap (λ s. s.limit) counted.1;
      });
      answer = sym (value ∙ ap (λ s. ruling s.rule.now R i) counted.1 ∙ ap (λ r. r R i) so_far.same.same_rule.same_ruling ∙ ap (λ R. ruling x.rule.now R i) members);
    }

    pub onward_skipped : may ≡ false → Onward contest ruling kept x e (i + 1) y
    onward_skipped cannot = record {
      same = so_far.same;
      left = left_skipped (ruling x.rule.now) x.winner (contest x.rule.now).candidates x.limit e x.tried i y.tried before so_far.left (joins ∙ cannot);
    }

  pub leads_over : {x y : Search X} {e : List ℕ} {i : ℕ} → Turn contest ruling kept x e i y → x.limit ≤ y.tried → stopped ≡ run_from contest ruling kept x e
  leads_over {x} {y} {e} {i} turn over = left_over (ruling x.rule.now) x.winner (contest x.rule.now).candidates x.limit e x.tried i y.tried turn.more turn.so_far.left turn.may over

module _ {X : Type 0} (contest : X → Slate) (ruling : X → Ruling) (kept : X → X → Type 0) (x : Search X) (e : List ℕ) where
  pub onward_first : Chains kept → length e < (contest x.rule.now).candidates → Onward contest ruling kept x e 1 x
  onward_first chains room = record {
    same = record { same_lender = refl; same_rule = same_rule_none contest ruling kept chains x.rule.now; same_winner = refl; same_limit = refl };
    left = left_all (ruling x.rule.now) x.winner (contest x.rule.now).candidates x.limit e x.tried room;
  }

module _ {X : Type 0} {contest : X → Slate} {ruling : X → Ruling} {kept : X → X → Type 0} {x : Search X} {e : List ℕ} {i : ℕ} {y z : Search X} {out : Bool} (asked : Asked contest ruling kept x e i y z out) where
  pub onward_blocked : out ≡ true → Onward contest ruling kept x e (i + 1) z
  onward_blocked blocked = record {
    same = asked.same;
    left =
        subst (Left (ruling x.rule.now) x.winner (contest x.rule.now).candidates x.limit e x.tried (i + 1)) (sym asked.count)
        (left_blocked (ruling x.rule.now) x.winner (contest x.rule.now).candidates x.limit e x.tried i y.tried asked.turn.more asked.turn.so_far.left asked.turn.may asked.under (asked.answer ∙ blocked));
  }

  module _ (free : out ≡ false) (f : List ℕ) (grown : f ≡ i ∷ e) where
    pub leads_full : length f ≡ (contest x.rule.now).candidates → survived f z.tried ≡ run_from contest ruling kept x e
    leads_full full =
        ap (survived f) asked.count ∙ ap (λ o. survived o (y.tried + 1)) grown
        ∙ left_full (ruling x.rule.now) x.winner (contest x.rule.now).candidates x.limit e x.tried i y.tried asked.turn.more asked.turn.so_far.left asked.turn.may asked.under (asked.answer ∙ free) (ap length (sym grown) ∙ full)

    -- u is where the walk below the ending with i leads
    module _ (short : length f < (contest x.rule.now).candidates) (u : Run) (leads : u ≡ run_from contest ruling kept z f) where
      below : u ≡ run_below (ruling x.rule.now) x.winner (contest x.rule.now).candidates x.limit (i ∷ e) (y.tried + 1)
      below =
          leads
          ∙ ap (λ r. run_below r z.winner (contest z.rule.now).candidates z.limit f z.tried) asked.same.same_rule.same_ruling
          ∙ ap (λ s. run_below (ruling x.rule.now) z.winner s.candidates z.limit f z.tried) asked.same.same_rule.same_contest
          ∙ ap (λ w. run_below (ruling x.rule.now) w (contest x.rule.now).candidates z.limit f z.tried) asked.same.same_winner
          ∙ ap (λ l. run_below (ruling x.rule.now) x.winner (contest x.rule.now).candidates l f z.tried) asked.same.same_limit
          ∙ ap (λ f. run_below (ruling x.rule.now) x.winner (contest x.rule.now).candidates x.limit f z.tried) grown
          ∙ ap (run_below (ruling x.rule.now) x.winner (contest x.rule.now).candidates x.limit (i ∷ e)) asked.count

      room : length (i ∷ e) < (contest x.rule.now).candidates
      room = subst (λ f. length f < (contest x.rule.now).candidates) grown short

      pub onward_open : Chains kept → (v : Search X) → SameSearch contest ruling kept z v → u ≡ going v.tried → Onward contest ruling kept x e (i + 1) v
      onward_open chains v same is = record {
        same = same_search_more chains asked.same same;
        left = left_open (ruling x.rule.now) x.winner (contest x.rule.now).candidates x.limit e x.tried i y.tried asked.turn.more asked.turn.so_far.left asked.turn.may asked.under (asked.answer ∙ free) room u below v.tried is;
      }

      pub leads_stopped : u ≡ stopped → stopped ≡ run_from contest ruling kept x e
      leads_stopped = left_open_stopped (ruling x.rule.now) x.winner (contest x.rule.now).candidates x.limit e x.tried i y.tried asked.turn.more asked.turn.so_far.left asked.turn.may asked.under (asked.answer ∙ free) room u below

      pub leads_survived : (o : List ℕ) (k : ℕ) → u ≡ survived o k → survived o k ≡ run_from contest ruling kept x e
      leads_survived = left_open_survived (ruling x.rule.now) x.winner (contest x.rule.now).candidates x.limit e x.tried i y.tried asked.turn.more asked.turn.so_far.left asked.turn.may asked.under (asked.answer ∙ free) room u below
