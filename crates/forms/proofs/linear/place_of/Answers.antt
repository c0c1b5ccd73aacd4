use mathlib.Core.Path.{sym}
use native.Mathlib.Omega.{arith}
use Rattle.forms.proofs.Weights.{place-within, place-past}
use Rattle.forms.proofs.linear.place_of.Goals as goal

-- `place_of` meets its contract.
pub returns-then-j-arity : goal.returns-then-j-arity
returns-then-j-arity c = let a = c.args in
    sym (place-within a.arity a.j a.x c.if-j-arity.true)

pub returns : goal.returns
returns c = let a = c.args in
    sym (place-past a.arity a.j a.x (omega arith))
