-- A result whose error was mapped, by what `map_err` ensures.
use mathlib.Core.Path.{◌≡◌, refl, sym, ap, ◌∙◌}
use mathlib.Core.Bool.{false≢true}
use Rattle.std.specs.Prelude.{Result, Ok, Err, MatchResult, is_err}
use Rattle.std.specs.Result.{IsErrAnd}

module _ {T E D : Type 0} (P : E → D → Type 0) where
  -- the error comes of one before
  pub mapped-err : (r : Result T E) (q : Result T D) (d : D) → MatchResult r (λ y. q ≡ Ok y) (λ e. IsErrAnd q (P e)) → q ≡ Err d → (e : E) × ((r ≡ Err e) × P e d)
  mapped-err (Ok y) q d h w = absurd (false≢true (ap is_err (sym h ∙ w)))
  mapped-err (Err e) q d h w = (e, (refl, (rw w at h)))

  -- a value stays
  pub mapped-ok : (r : Result T E) (q : Result T D) (x : T) → MatchResult r (λ y. q ≡ Ok y) (λ e. IsErrAnd q (P e)) → q ≡ Ok x → r ≡ Ok x
  mapped-ok (Ok y) q x h w = ap (λ (r : Result T D). elim r [ Ok z ↦ Ok z | Err d ↦ Ok y ]) (sym h ∙ w)
  mapped-ok (Err e) q x h w = absurd (rw w at h)
