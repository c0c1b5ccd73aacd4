use native.Mathlib.Omega.{arith}
use Rattle.interpretation.proofs.Ranks.{power-within}
use Rattle.interpretation.proofs.vector.power.Goals as goal

-- `power` meets its contract: within the limits the power fits.
pub pow-requires : goal.pow-requires
pow-requires c = omega (arith, power-within c.args.base c.args.count c.requires.0 c.requires.1)
