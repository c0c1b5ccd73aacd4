-- The cells of a case that was read.
use Rattle.std.specs.Prelude.{ℕ, ◌≤◌, ◌≡◌, Bool, true, List, length, take}
use Rattle.std.proofs.Math.Option.{Option}
use Rattle.theory.specs.Truth.{Failure}
use Rattle.theory.specs.Cells.{cell_count, is_interpretation, judged, is_model}
use Rattle.syntax.specs.declared.limits.Problem.{Problem}
use Rattle.syntax.specs.Signatures.{signature_in}
use Rattle.problem.specs.Problems.{problem_in, Accepted}

-- the first cells, as many as the problem's symbols have at size s
abbrev pub cells_of : List ℕ → Problem → List ℕ → ℕ → List ℕ
cells_of sheet p cells s = take (cell_count s (signature_in sheet p.signature)) cells

-- a problem that was read, and an interpretation of it at size s in the first cells
pub record CellsLent (sheet : List ℕ) (p : Problem) (cells : List ℕ) (s : ℕ) : Type 0 where
  pub positive : 1 ≤ s
  pub size : s ≤ 8
  pub accepted : Accepted sheet p
  pub held : cell_count s (signature_in sheet p.signature) ≤ length cells
  pub values : is_interpretation s (signature_in sheet p.signature) (cells_of sheet p cells s) ≡ true

-- the first clause and choice under which it fails there
abbrev pub judged_in : List ℕ → Problem → List ℕ → ℕ → Option Failure
judged_in sheet p cells s = judged s (problem_in sheet p).symbols (problem_in sheet p).clauses (cells_of sheet p cells s)

-- whether that is a model of the problem
abbrev pub is_model_in : List ℕ → Problem → List ℕ → ℕ → Bool
is_model_in sheet p cells s = is_model s (problem_in sheet p).symbols (problem_in sheet p).clauses (cells_of sheet p cells s)
