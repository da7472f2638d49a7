-- What the live records rule out, record by record.
use Rattle.std.proofs.Common.{◌≡◌, ℕ, ◌+◌, Bool, true, false, cond, ◌&&◌, ◌||◌, List, [], ◌∷◌, refl, ap}
use Rattle.std.specs.List.{list_any}
use Rattle.irv.specs.Sets.{Set}
use Rattle.irv.specs.Assertions.{rules_any}
use Rattle.assertion.specs.Kinds.{rules_kind}
use Rattle.audit.specs.Entries.{lines_from, entries, rules_of_entries}
use Rattle.audit.specs.declared.records.AssertionRecord.{AssertionRecord}

abbrev pub forbidden : Set → ℕ → AssertionRecord → Bool
forbidden R c r = r.live && rules_kind r.assertion R c

pub any_rules : (R : Set) (c k : ℕ) (rs : List AssertionRecord) → list_any (forbidden R c) rs ≡ rules_any (rules_of_entries (entries (lines_from k rs))) R c
any_rules R c k [] = refl
any_rules R c k (r ∷ rs) =
    let rest : list_any (forbidden R c) rs ≡ rules_any (rules_of_entries (entries (lines_from (k + 1) rs))) R c = any_rules R c (k + 1) rs in
    elim r.live as (λ b. ((b && rules_kind r.assertion R c) || list_any (forbidden R c) rs) ≡ rules_any (rules_of_entries (entries (cond b (record { entry = record { number = k; assertion = r.assertion }; margin = r.margin } ∷ lines_from (k + 1) rs) (lines_from (k + 1) rs)))) R c) [ true ↦ ap (λ x. rules_kind r.assertion R c || x) rest | false ↦ rest ]
