-- What is shown of a failure.
use Rattle.std.specs.Prelude.{ℕ, suc, ◌<◌, ◌≡◌, List, [], length, get_or}
use Rattle.std.proofs.Math.Option.{Option}
use Rattle.theory.specs.Vectors.{AllBelow}
use Rattle.theory.specs.Syntax.{variables}
use Rattle.theory.specs.Operations.{max_size, Reason, reason_of}
use Rattle.syntax.specs.declared.limits.Problem.{Problem}
use Rattle.interpretation.specs.Vectors.{digits_in}
use Rattle.problem.specs.Problems.{problem_in, Accepted}
use Rattle.judging.specs.declared.failures.Failure.{Failure}
use Rattle.judging.specs.Cases.{judged_in}

-- the reason that a failure is
abbrev pub reason_at : List ℕ → Problem → Failure → Reason
reason_at sheet p f = record { clause = suc f.clause; letters = variables (get_or (problem_in sheet p).clauses f.clause []); values = digits_in f.values }

-- a clause of a problem that was read, and an element for each of its variables
pub record FailureHeld (sheet : List ℕ) (p : Problem) (f : Failure) : Type 0 where
  pub accepted : Accepted sheet p
  pub clause : f.clause < p.count
  pub counted : length (digits_in f.values) ≡ length (reason_at sheet p f).letters
  pub below : AllBelow max_size (digits_in f.values)

-- the reason why the first cells are no model of the problem
abbrev pub reason_for : List ℕ → Problem → List ℕ → ℕ → Option Reason
reason_for sheet p cells s = reason_of (problem_in sheet p).clauses (judged_in sheet p cells s)
