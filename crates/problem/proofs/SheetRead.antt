-- What was read of a sheet is the problem that the definition reads, or its refusal; with columns too.
use Prim.Native.Nat.{ℕ}
use mathlib.Core.Path.{◌≡◌, sym}
use mathlib.Core.List.{List}
use Rattle.std.specs.Prelude.{Ok}
use Rattle.theory.specs.Refusals.{answer}
use Rattle.theory.specs.Problem.{read_problem}
use Rattle.theory.specs.Columns.{placed_problem}
use Rattle.theory.proofs.PlacedReading.{placed-problem}
use Rattle.syntax.specs.declared.limits.Problem.{Problem}
use Rattle.problem.specs.Problems.{problem_in, reading_of}

pub sheet-placed : (sheet : List ℕ) (p : Problem) → reading_of sheet (Ok p) ≡ read_problem sheet → placed_problem sheet ≡ answer (problem_in sheet p)
sheet-placed sheet p read = placed-problem sheet (problem_in sheet p) (sym read)
