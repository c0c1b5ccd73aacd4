-- `variable_count` meets its contract.
use mathlib.Core.Path.{◌∙◌}
use Rattle.flattening.proofs.Definitions.{variables-right}
use Rattle.flattening.proofs.flat.variable_count.Goals as goal

pub variables-requires : goal.variables-requires
variables-requires c = (c.lift.ensures c.requires).room

pub returns : goal.returns
returns c s = c.variables.ensures ∙ variables-right s c.lift.result (c.lift.ensures s)
