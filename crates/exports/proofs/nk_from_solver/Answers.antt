-- `nk_from_solver` says what the call says.
use mathlib.Core.Path.{ap, ◌∙◌}
use Rattle.layouts.specs.Layouts.{solver_out}
use Rattle.exports.proofs.nk_from_solver.Goals as goal

pub returns : goal.returns
returns c = let w = c.from_solver in record { answer = c.solver_out.ensures ∙ ap solver_out w.ensures.answer; left = w.ensures.left }
