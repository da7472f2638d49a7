-- What a ballot source stands for, and what it hands out.
use Rattle.std.specs.Prelude.{◌≡◌, ℕ, ◌+◌, ◌<◌, ◌≤◌, false, ◌⊎◌, List, ◌∷◌, map, length, drop, Option, MatchOption}
use Rattle.irv.specs.Ballots.{Slate, BallotGroup, Proper, Fits, ballots, most_ballots}
use Rattle.ballot.specs.Values.{group_slate, group_value, all_of_contest}
use Rattle.ballot.specs.declared.group.Group.{Group}
use Rattle.ballot.specs.declared.refusal.Refusal.{Refusal}
use Rattle.ballot.specs.declared.refusal.Refusal.TheVariants.{CountOutOfRange, OtherContest}

pub record SoundSource (s : Slate) (gs : List BallotGroup) (place : ℕ) : Type 0 where
  pub proper : Proper s
  pub fit : Fits s gs
  pub within : place ≤ length gs
  deriving IsProp as sound_source_prop

-- what is asked of a source leaves its contest and its groups
pub record SameBallots {S : Type 0} (contest : S → Slate) (groups : S → List BallotGroup) (before after : S) : Type 0 where
  pub same_contest : contest after ≡ contest before
  pub same_groups : groups after ≡ groups before

-- at the place stands the group that is handed out; at the end there is none
abbrev pub HandsOut : Slate → List BallotGroup → ℕ → Option Group → ℕ → Type 0
HandsOut s gs place r after =
    MatchOption r ((length gs ≤ place) × (after ≡ place)) (λ g. (drop place gs ≡ group_value g ∷ drop (place + 1) gs) × ((group_slate g ≡ s) × (after ≡ place + 1)))

-- why lent groups make no source: too many ballots, and only where there are not, a ranking of another contest
abbrev pub LentRefused : ℕ → List Group → Refusal → Type 0
LentRefused n gs e =
    ((most_ballots < ballots (map group_value gs)) × (e ≡ CountOutOfRange)) ⊎ ((ballots (map group_value gs) ≤ most_ballots) × ((all_of_contest n gs ≡ false) × (e ≡ OtherContest)))
