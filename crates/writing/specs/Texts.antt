-- The text of a problem's clauses at a size, with the constant clauses where they are used, and what of Write's checks stands before it.
use Rattle.std.specs.Prelude.{ℕ, ◌≤◌, Bool, List, leb, length}
use Rattle.theory.specs.Propositional.{PropClause, prop_count}
use Rattle.theory.specs.Dimacs.{dimacs}
use Rattle.theory.specs.Refusals.{Answer, answer, unplaced, needing, check, ◌>>=◌}
use Rattle.theory.specs.Problem as theory
use Rattle.theory.specs.Operations.{max_size, max_instances}
use Rattle.symmetry.specs.ConstantClauses.{prop_clauses_with, instance_count_with}
use Rattle.syntax.specs.declared.limits.Problem.{Problem}
use Rattle.problem.specs.Problems.{problem_in, Accepted}

-- the clauses of a problem at a size
abbrev pub clauses_at : Bool → theory.Problem → ℕ → List PropClause
clauses_at used p size = prop_clauses_with used size p.symbols p.clauses

-- I
abbrev pub instances_at : Bool → theory.Problem → ℕ → ℕ
instances_at used p size = instance_count_with used size p.symbols p.clauses

-- the text of the clauses
abbrev pub clauses_text : Bool → theory.Problem → ℕ → List ℕ
clauses_text used p size = dimacs (prop_count size p.symbols) (clauses_at used p size)

-- the text, given an output of so many bytes: 11
abbrev pub text_within : Bool → theory.Problem → ℕ → ℕ → Answer (List ℕ)
text_within used p size room = check (leb (length (clauses_text used p size)) room) (needing 11 (length (clauses_text used p size))) >>= λ _. answer (clauses_text used p size)

-- the text of a problem at a checked size: 9, then 11
abbrev pub text_at : Bool → theory.Problem → ℕ → ℕ → Answer (List ℕ)
text_at used p size room = check (leb (instances_at used p size) max_instances) (unplaced 9) >>= λ _. text_within used p size room

-- an accepted problem at a size of 1 to 8
pub record Sized (sheet : List ℕ) (p : Problem) (size : ℕ) : Type 0 where
  pub accepted : Accepted sheet p
  pub positive : 1 ≤ size
  pub within : size ≤ max_size

-- which has not too many instances
pub record Writable (sheet : List ℕ) (p : Problem) (size : ℕ) : Type 0 where
  pub sized : Sized sheet p size
  pub instances : instances_at p.symmetry (problem_in sheet p) size ≤ max_instances
