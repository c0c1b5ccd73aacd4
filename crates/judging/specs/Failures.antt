-- What judging a problem finds.
use Rattle.std.specs.Prelude.{ℕ, ◌≤◌, ◌≡◌, Bool, true, List, Some, None}
use Rattle.std.specs.Prelude as rust
use Rattle.std.proofs.Math.Option.{Option, none, some}
use Rattle.theory.specs.Truth as theory
use Rattle.theory.specs.Cells.{is_interpretation}
use Rattle.syntax.specs.declared.limits.Problem.{Problem}
use Rattle.syntax.specs.Signatures.{signature_in}
use Rattle.interpretation.specs.Vectors.{digits_in}
use Rattle.interpretation.specs.Tables.{TablesOf}
use Rattle.problem.specs.Problems.{Accepted}
use Rattle.truth.specs.Values.{tables_in}
use Rattle.judging.specs.declared.failures.Failure.{Failure}

-- the clause and the choice under which it fails, if there is one
abbrev pub failure_in : rust.Option Failure → Option theory.Failure
failure_in (Some f) = some (record { clause = f.clause; choice = digits_in f.values })
failure_in None = none

-- a problem that was read, where its tables start, and an interpretation of it at size s
pub record ProblemLent (sheet : List ℕ) (p : Problem) (arities : List ℕ) (functions : List Bool) (bases cells : List ℕ) (s : ℕ) : Type 0 where
  pub positive : 1 ≤ s
  pub size : s ≤ 8
  pub accepted : Accepted sheet p
  pub tables : TablesOf (signature_in sheet p.signature) s (tables_in arities functions bases cells)
  pub values : is_interpretation s (signature_in sheet p.signature) cells ≡ true
