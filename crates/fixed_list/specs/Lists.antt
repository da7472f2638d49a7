-- What a list in fixed memory stands for.
use Rattle.std.specs.Prelude.{◌≡◌, ℕ, ◌<◌, List, [], ◌∷◌, ◌++◌, length, take, MatchResult, Result}
use Rattle.fixed_list.specs.declared.list.FixedList.{FixedList}
use Rattle.fixed_list.specs.declared.list.methods.ListFull.{ListFull}

abbrev pub listed : {T : Type 0} {N : ℕ} → FixedList T N → List T
listed l = take l.len l.places

-- an item put behind the others; with N of them it is refused, and the list stays
abbrev pub Pushed : {T : Type 0} → ℕ → T → List T → Result (Unit {0}) ListFull → List T → Type 0
Pushed n x before r after =
    MatchResult r (λ _. (length before < n) × (after ≡ before ++ (x ∷ []))) (λ _. (length before ≡ n) × (after ≡ before))
