-- What a result has after its error was mapped.
use Rattle.std.proofs.Common.{◌≡◌, Result, Ok, Err, IsErrAnd, MatchResult, sym, subst}

module _ {T E D : Type 0} {Q : E → Type 0} {R : D → Type 0} {post : E → D → Type 0} (each : (e : E) (d : D) → post e d → Q e → R d) where
  mapped_by : (P : T → Type 0) (e : E) (s : Result T D) → IsErrAnd s (post e) → Q e → MatchResult s P R
  mapped_by P e (Ok x) is h = absurd is
  mapped_by P e (Err d) is h = each e d is h

  pub mapped_err : (P : T → Type 0) (r : Result T E) (s : Result T D) → MatchResult r (λ x. s ≡ Ok x) (λ e. IsErrAnd s (post e)) → MatchResult r P Q → MatchResult s P R
  mapped_err P (Ok x) s is h = subst (λ t. MatchResult t P R) (sym is) h
  mapped_err P (Err e) s is h = mapped_by P e s is h
