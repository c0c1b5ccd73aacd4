use mathlib.Core.Path.{◌≡◌}
use lib.ListN.{length}
use Rattle.truth.specs.Steps.{VariablesLent}
use Rattle.truth.proofs.Variables.{ValuedTo}
use Rattle.truth.proofs.values.variable_values.Given as goal

abbrev pub invariant-loop-i : goal.invariant-loop-i
invariant-loop-i l =
    (length l.values ≡ length l.initial.values) × ((v : VariablesLent l.words l.from l.place l.choice) → ValuedTo v l.tail l.i l.values)
