use Prim.Native.Nat.{ℕ, ◌<◌, ◌-◌}
use mathlib.Core.Path.{◌≡◌}
use lib.Dec.{eqb}
use lib.ListN.{length, get_or}
use Rattle.theory.specs.Lists.{place_that}
use Rattle.syntax.specs.Variables.{variables_in, place_or8}
use Rattle.shallow.specs.Flattenable.{Flattenable}
use Rattle.shallow.proofs.Progress.{Progress}
use Rattle.shallow.proofs.literals.lift.Given as goal

-- `lift` meets its contract: the literals before the place reached are made shallow.
abbrev pub invariant-loop-state : goal.invariant-loop-state
invariant-loop-state l =
    (length l.m.words ≡ 64) × (length l.variables.place ≡ 8) × ((x : ℕ) → x < 8 → get_or l.variables.place x 0 ≡ place_or8 (place_that (eqb x) (variables_in l.m)))
    × ((s : Flattenable l.arities l.m) → Progress s l.state)

abbrev pub decreases-loop-state : goal.decreases-loop-state
decreases-loop-state l =
    l.m.count - l.state.next
