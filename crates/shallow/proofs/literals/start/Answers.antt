use mathlib.Core.Path.{refl}
use Rattle.shallow.specs.Shallow.{started}
use Rattle.shallow.proofs.literals.start.Goals as goal

-- `start` meets its contract.
pub returns : goal.returns
unfolding started
returns c = refl
