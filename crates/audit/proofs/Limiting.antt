-- A rule that is limited to the steps of its contest contradicts the same orders: it has the same survivor.
use Rattle.std.proofs.Common.{◌≡◌, ℕ, true, ◌&&◌, List, [], ◌∷◌, Some, None, Option, sym, ap, ◌∙◌}
use Rattle.irv.specs.Sets.{set_of}
use Rattle.irv.specs.Ballots.{Slate, ranks}
use Rattle.irv.specs.Endings.{Ruling, Stands, OnlySteps, Contradicted, Survivor, FirstStanding}
use Rattle.irv.specs.Recounts.{is_step}
use Rattle.irv.proofs.Lists.{rest_ranks}
use Rattle.irv.proofs.Recounts.{recount_laws, order_step}
use Rattle.std.proofs.lemmas.Bool.{and_parts, and_right}

abbrev limited : Slate → Ruling → Ruling
limited s r R c = is_step s R c && r R c

pub limited_steps : (s : Slate) (r : Ruling) → OnlySteps s (limited s r)
limited_steps s r R c out = (recount_laws.steps_told s R c).0 (and_parts (is_step s R c) (r R c) out).0

pub stands_limited : (s : Slate) (r : Ruling) (o : List ℕ) → Stands r o → Stands (limited s r) o
stands_limited s r [] st = tt
stands_limited s r (c ∷ []) st = tt
stands_limited s r (c ∷ d ∷ e) st = (and_right (is_step s (set_of (c ∷ d ∷ e)) c) _ st.0, stands_limited s r (d ∷ e) st.1)

stands_ranked : (s : Slate) (r : Ruling) (o : List ℕ) → ranks s o ≡ true → Stands (limited s r) o → Stands r o
stands_ranked s r [] h st = tt
stands_ranked s r (c ∷ []) h st = tt
stands_ranked s r (c ∷ d ∷ e) h st =
    (sym (ap (λ b. b && r (set_of (c ∷ d ∷ e)) c) ((recount_laws.steps_told s (set_of (c ∷ d ∷ e)) c).1 (order_step s c d e h))) ∙ st.0, stands_ranked s r (d ∷ e) (rest_ranks s c (d ∷ e) h) st.1)

pub contradicted_limited : (s : Slate) (r : Ruling) (o : List ℕ) → Contradicted (limited s r) o → Contradicted r o
contradicted_limited s r o against st = against (stands_limited s r o st)

pub survivor_limited : (s : Slate) (r : Ruling) (w : ℕ) (o : List ℕ) → Survivor s (limited s r) w o → Survivor s r w o
survivor_limited s r w o sv = record {
  alternative = sv.alternative;
  stands = stands_ranked s r o sv.alternative.order.ranking sv.stands;
  first = λ p alt st earlier. sv.first p alt (stands_limited s r p st) earlier;
}

pub first_limited : (s : Slate) (r : Ruling) (w : ℕ) (found : Option (List ℕ)) → FirstStanding s (limited s r) w found → FirstStanding s r w found
first_limited s r w None f = λ p alt. contradicted_limited s r p (f p alt)
first_limited s r w (Some o) f = survivor_limited s r w o f
