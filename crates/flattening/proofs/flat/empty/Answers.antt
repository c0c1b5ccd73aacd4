use mathlib.Core.Path.{refl}
use Rattle.flattening.specs.Assembled.{empty_flat}
use Rattle.flattening.proofs.flat.empty.Goals as goal

-- `empty` meets its contract.
pub returns : goal.returns
unfolding empty_flat
returns c = refl
