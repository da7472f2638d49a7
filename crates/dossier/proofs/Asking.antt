-- What a dossier replies to a question under the marks that it needs.
use Rattle.std.proofs.Common.{◌≡◌, ℕ, ◌+◌, ◌<◌, Bool, true, false, cond, not, ◌&&◌, List, [], ◌∷◌, length, get_or, pos, Some, Ok, sym, refl, ap, ◌∙◌, arith}
use lib.Signed.{lt_z}
use Rattle.std.proofs.lemmas.Iterator.Adapters.{position_from-zero}
use Rattle.std.specs.List.{position, position_from}
use Rattle.std.specs.Option.{option_map}
use Rattle.assertion.specs.Kinds.{top_kind}
use Rattle.audit.specs.Entries.{is_among, lines_from, entries}
use Rattle.audit.specs.States.{State, standing, has_tally}
use Rattle.audit.specs.Calls.{answered, margin_reply, margin_and_top, first_failing}
use Rattle.audit.specs.declared.records.AssertionRecord.{AssertionRecord}
use Rattle.audit.specs.declared.stage.Stage.{Stage}
use Rattle.audit.specs.declared.stage.Stage.TheVariants.{Plain, Checked, Tallied, Ready}
use Rattle.audit.proofs.Numbering.{line_at, among_at, told_at}
use Rattle.dossier.specs.Dossiers.{lacking}
use Rattle.dossier.specs.declared.event.StageQuestion.TheVariants.{Margin}

-- a number is live where the record at its place is
pub among_read : (n i : ℕ) (rs : List AssertionRecord) (r : AssertionRecord) → i + 1 ≡ n → i < length rs → r ≡ get_or rs i r → is_among n (entries (lines_from 1 rs)) ≡ r.live
among_read n i rs r number within is = ap (λ m. is_among m (entries (lines_from 1 rs))) (omega arith) ∙ among_at 1 i rs r within ∙ ap (λ q. q.live) (sym is)

pub tally_mark : (g : Stage) (u : Unit {0}) → Ok u ≡ answered (lacking Margin g) u → has_tally g ≡ true
tally_mark Plain u is = absurd (cc)
tally_mark Checked u is = absurd (cc)
tally_mark Tallied u is = refl
tally_mark Ready u is = refl

-- the margin of the record at the number's place
pub margin_told : (s : State) (n i : ℕ) (r : AssertionRecord) → is_among n (standing s).live ≡ true → has_tally s.stage ≡ true → i + 1 ≡ n → i < length s.records → r ≡ get_or s.records i r → margin_reply (standing s) n ≡ Ok (r.margin, top_kind r.assertion)
margin_told s n i r among tallied place within is =
    let number : n ≡ 1 + i = omega arith in
    let live : (get_or s.records i r).live ≡ true = ap (λ q. q.live) (sym is) ∙ sym (among_read n i s.records r place within is) ∙ among in
    rw (among, tallied) (ap (λ m. Ok (margin_and_top m (lines_from 1 s.records))) number ∙ ap Ok (told_at 1 i s.records r within live ∙ ap (λ q. (q.margin, top_kind q.assertion)) (sym is)))

-- the first that fails, record by record
abbrev pub failing : AssertionRecord → Bool
failing r = r.live && not (lt_z (pos 0) r.margin)

failing_from : (k : ℕ) (rs : List AssertionRecord) → option_map (λ i. i + 1) (position_from failing k rs) ≡ first_failing (lines_from (k + 1) rs)
failing_from k [] = refl
failing_from k (r ∷ rs) =
    let rest : option_map (λ i. i + 1) (position_from failing (k + 1) rs) ≡ first_failing (lines_from (k + 1 + 1) rs) = failing_from (k + 1) rs in
    elim r.live as (λ b. option_map (λ i. i + 1) (cond (b && not (lt_z (pos 0) r.margin)) (Some k) (position_from failing (k + 1) rs)) ≡ first_failing (cond b (line_at (k + 1) r ∷ lines_from (k + 1 + 1) rs) (lines_from (k + 1 + 1) rs))) [
      | true ↦ elim (lt_z (pos 0) r.margin) as (λ m. option_map (λ i. i + 1) (cond (not m) (Some k) (position_from failing (k + 1) rs)) ≡ cond m (first_failing (lines_from (k + 1 + 1) rs)) (Some (k + 1))) [ true ↦ rest | false ↦ refl ]
      | false ↦ rest
    ]

pub failing_first : (rs : List AssertionRecord) → option_map (λ i. i + 1) (position failing rs) ≡ first_failing (lines_from 1 rs)
failing_first rs = ap (option_map (λ i. i + 1)) (position_from-zero failing rs) ∙ failing_from 0 rs
