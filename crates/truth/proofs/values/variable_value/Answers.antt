-- `variable_value` meets its contract.
use Prim.Native.Nat.{◌-◌}
use mathlib.Core.Path.{sym}
use Rattle.syntax.proofs.Places.{assign-placed}
use Rattle.syntax.specs.Codes.{letter_code}
use Rattle.truth.proofs.values.variable_value.Goals as goal

pub returns : goal.returns
returns c I xs p l e = let a = c.args in
    sym (assign-placed xs _ p (a.letter - letter_code) l e a.choice.now)
