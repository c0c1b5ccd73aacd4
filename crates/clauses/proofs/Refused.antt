-- Where there is no value, `ok_or(e)?` returns the error e.
use mathlib.Core.Path.{◌≡◌}
use Rattle.std.specs.Prelude.{None, Err}
use Rattle.std.specs.Prelude as rust
use Rattle.std.specs.Option.{ok_or}
use Rattle.std.specs.Result.{IsErrAnd}
use Rattle.std.proofs.lemmas.Result.{err_from_is_err_and}

pub first_refused : {A B E : Type 0} (o : rust.Option A) {w : rust.Result A E} {x : E} (e : E) (r : rust.Result B E) → o ≡ None → w ≡ ok_or o e → w ≡ Err x → IsErrAnd r (λ y. y ≡ x) → r ≡ Err e
first_refused o {w} e r none q was is =
    let p = err_from_is_err_and r is in
    let v : w ≡ Err e = rw none at q in
    cc
