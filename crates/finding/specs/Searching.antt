-- What a search at one size asks and leaves.
use Rattle.std.specs.Prelude.{ℕ, ◌≤◌, List, length}
use Rattle.theory.specs.Propositional.{PropClause}
use Rattle.theory.specs.Problem.{max_bytes}
use Rattle.theory.specs.Operations.{max_size, max_instances}
use Rattle.symmetry.specs.ConstantClauses.{prop_clauses_with, instance_count_with, work_needed_with}
use Rattle.syntax.specs.declared.limits.Problem.{Problem}
use Rattle.problem.specs.Problems.{problem_in, Accepted}
use Rattle.problem.specs.Modes.{Shows}

-- a problem that was read of the sheet, its declared symbols before the helpers, a size that is not refused, and a work area of so many numbers that is large enough
pub record Searchable (sheet : List ℕ) (p : Problem) (size room : ℕ) : Type 0 where
  pub accepted : Accepted sheet p
  pub bytes : length sheet ≤ max_bytes
  pub shows : Shows sheet p.signature
  pub positive : 1 ≤ size
  pub within : size ≤ max_size
  pub instances : instance_count_with p.symmetry size (problem_in sheet p).symbols (problem_in sheet p).clauses ≤ max_instances
  pub space : work_needed_with p.symmetry size (problem_in sheet p).symbols (problem_in sheet p).clauses ≤ room

-- the clauses of the problem at a size, with the constant clauses where they are used
abbrev pub sheet_clauses : ℕ → List ℕ → Problem → List PropClause
sheet_clauses size sheet p = prop_clauses_with p.symmetry size (problem_in sheet p).symbols (problem_in sheet p).clauses
