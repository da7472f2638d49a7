-- The live assertions of a dossier under their numbers, and what they rule out together.
use Rattle.std.specs.Prelude.{ℕ, ◌+◌, Bool, false, cond, not, ◌&&◌, ◌||◌, List, [], ◌∷◌, map, ℤ, filter, ◌==◌}
use Rattle.irv.specs.Ballots.{Slate, BallotGroup}
use Rattle.irv.specs.Endings.{Ruling}
use Rattle.irv.specs.Recounts.{is_step}
use Rattle.irv.specs.Assertions.{margin, rules_any}
use Rattle.assertion.specs.Kinds.{value_kind, half_kind, rules_kind}
use Rattle.assertion.specs.declared.assertion.Assertion.{Assertion}
use Rattle.audit.specs.declared.records.AssertionRecord.{AssertionRecord}

-- an assertion under the number that it was given when it was entered
pub record Entry : Type 0 where
  pub number : ℕ
  pub assertion : Assertion

-- an entry with its margin
pub record Line : Type 0 where
  pub entry : Entry
  pub margin : ℤ

-- the live ones of some records, of which the first has the number k
abbrev pub lines_from : ℕ → List AssertionRecord → List Line
lines_from k [] = []
lines_from k (r ∷ rs) =
    cond r.live (record { entry = record { number = k; assertion = r.assertion }; margin = r.margin } ∷ lines_from (k + 1) rs) (lines_from (k + 1) rs)

abbrev pub entries : List Line → List Entry
entries ls = map (λ l. l.entry) ls

abbrev pub is_among : ℕ → List Entry → Bool
is_among n [] = false
is_among n (e ∷ es) = e.number == n || is_among n es

-- the entries but for number n
abbrev pub without : ℕ → List Entry → List Entry
without n es = filter (λ e. not (e.number == n)) es

-- an entry with its margin on these ballots
abbrev pub line_on : Slate → List BallotGroup → Entry → Line
line_on s gs e = record { entry = e; margin = margin (value_kind e.assertion) (half_kind e.assertion) s gs }

abbrev pub rules_of_entries : List Entry → List Ruling
rules_of_entries es = map (λ e. rules_kind e.assertion) es

-- the live assertions as a rule: the steps of the contest that any of them rules out
abbrev pub live_ruling : Slate → List Entry → Ruling
live_ruling s es R c = is_step s R c && rules_any (rules_of_entries es) R c
