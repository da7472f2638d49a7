-- What contests, rankings and groups stand for.
use Rattle.std.specs.Prelude.{◌≡◌, ℕ, ◌<◌, Bool, true, false, ◌&&◌, ◌⊎◌, List, [], ◌∷◌, length, take, Option, MatchOption, ◌==◌, slice_index}
use Rattle.irv.specs.Ballots.{Slate, slate, member, mem, ranks, BallotGroup}
use Rattle.fixed_list.specs.Lists.{listed}
use Rattle.ballot.specs.declared.contest.Contest.{Contest}
use Rattle.ballot.specs.declared.group.Group.{Group}
use Rattle.ballot.specs.declared.ranking.Ranking.{Ranking}

abbrev pub contest_slate : Contest → Slate
contest_slate k = slate k.candidates

-- the contest that a ranking was made for, and the candidates that it ranks, best first
abbrev pub ranking_slate : Ranking → Slate
ranking_slate r = slate r.candidates

abbrev pub ranked : Ranking → List ℕ
ranked r = listed r.list

abbrev pub group_slate : Group → Slate
group_slate g = ranking_slate g.ranking

abbrev pub group_value : Group → BallotGroup
group_value g = record { ranking = ranked g.ranking; count = g.count }

-- every ranking was made for a contest of n
abbrev pub all_of_contest : ℕ → List Group → Bool
all_of_contest n [] = true
all_of_contest n (g ∷ gs) = g.ranking.candidates == n && all_of_contest n gs

-- where a list of numbers first fails to be a ranking, if it does
abbrev pub FirstUnfit : Slate → List ℕ → Option ℕ → Type 0
FirstUnfit s xs r =
    MatchOption r (ranks s xs ≡ true) (λ i. (i < length xs) × ((ranks s (take i xs) ≡ true) × ((member s (slice_index xs i) ≡ false) ⊎ (mem (slice_index xs i) (take i xs) ≡ true))))
