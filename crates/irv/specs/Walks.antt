-- The endings as a search comes to them, and how it counts them up to a limit and to the first survivor.
use Rattle.std.specs.Prelude.{ℕ, zero, suc, ◌+◌, ◌-◌, Bool, false, cond, not, ◌&&◌, List, [], ◌∷◌, ◌++◌, length, ◌==◌, nat_lt}
use Rattle.irv.specs.Sets.{set_of}
use Rattle.irv.specs.Ballots.{mem}
use Rattle.irv.specs.Endings.{Ruling}

-- k candidates from i on
abbrev pub upward : ℕ → ℕ → List ℕ
upward zero i = []
upward (suc k) i = i ∷ upward k (i + 1)

-- whether c may be the next newer member: it is new, and as the last of all it is not the winner
abbrev pub may_join : ℕ → List ℕ → ℕ → Bool
may_join w [] c = not (c == w)
may_join w (d ∷ e) c = not (mem c (d ∷ e))

-- the ending e with c added, and where it is open those below it
abbrev pub grown : Ruling → (List ℕ → List (List ℕ)) → List ℕ → ℕ → List (List ℕ)
grown r below e c = (c ∷ e) ∷ cond (r (set_of (c ∷ e)) c) [] (below (c ∷ e))

-- the same for one candidate after the other
abbrev pub spread : Ruling → ℕ → (List ℕ → List (List ℕ)) → List ℕ → List ℕ → List (List ℕ)
spread r w below e [] = []
spread r w below e (c ∷ cs) = cond (may_join w e c) (grown r below e c) [] ++ spread r w below e cs

-- the endings below e, to which k members can be added, in a contest of n
abbrev pub walk : Ruling → ℕ → ℕ → ℕ → List ℕ → List (List ℕ)
walk r w n zero e = []
walk r w n (suc k) e = spread r w (walk r w n k) e (upward n 1)

-- a full ending that is not blocked, of those that the walk comes to
abbrev pub is_survivor : Ruling → ℕ → List ℕ → Bool
is_survivor r n [] = false
is_survivor r n (c ∷ e) = length (c ∷ e) == n && not (r (set_of (c ∷ e)) c)

-- how far a search is: so many tried and no survivor yet, stopped at the limit, or the survivor and how many were tried
pub data Run : Type 0 where
  going : ℕ → Run
  stopped : Run
  survived : List ℕ → ℕ → Run

-- one more ending, where final says which ending is a survivor
abbrev pub next : (List ℕ → Bool) → ℕ → Run → List ℕ → Run
next final limit (going t) e = cond (nat_lt t limit) (cond (final e) (survived e (t + 1)) (going (t + 1))) stopped
next final limit stopped e = stopped
next final limit (survived o k) e = survived o k

abbrev pub run : (List ℕ → Bool) → ℕ → Run → List (List ℕ) → Run
run final limit u [] = u
run final limit u (e ∷ es) = run final limit (next final limit u e) es

-- where a search leads that has tried t and goes on with the endings below e
abbrev pub run_below : Ruling → ℕ → ℕ → ℕ → List ℕ → ℕ → Run
run_below r w n limit e t = run (is_survivor r n) limit (going t) (walk r w n (n - length e) e)
