-- Filling cells in order, the least value first.
use Rattle.std.specs.Prelude.{ℕ, ◌≤◌, ◌≡◌, true, List, ◌++◌, map, length, take, drop}
use Rattle.std.proofs.Math.Option.{Option, none, some}
use Rattle.theory.specs.Lists.{up_to}
use Rattle.theory.specs.Syntax.{Signature}
use Rattle.theory.specs.Cells.{cell_count, cell_kinds, value_count, in_range, is_model}
use Rattle.theory.specs.Least.{first_list}
use Rattle.theory.specs.Operations.{max_size}
use Rattle.theory.specs.PlainSearch.{max_plain_cells}
use Rattle.syntax.specs.declared.limits.Problem.{Problem}
use Rattle.syntax.specs.Signatures.{signature_in}
use Rattle.problem.specs.Problems.{problem_in, Accepted}
use Rattle.judging.specs.Cases.{cells_of}
use Rattle.text.specs.Put.{put}
use Rattle.plain.specs.declared.cells.PlainCells.{PlainCells}
use Rattle.std.specs.Prelude as rust
use Rattle.std.specs.Prelude.{Some, None, Ok, Err}

-- how many values each cell has
unfoldable pub choices_of : ℕ → Signature → List ℕ
choices_of s g = map (value_count s) (cell_kinds s g)

-- a problem that was read, and a size at which it has at most 64 cells
pub record Searchable (sheet : List ℕ) (p : Problem) (s : ℕ) : Type 0 where
  pub positive : 1 ≤ s
  pub size : s ≤ max_size
  pub accepted : Accepted sheet p
  pub few : cell_count s (signature_in sheet p.signature) ≤ max_plain_cells

-- a problem that was read, at most 64 cells at size s with so many values each, and values of the cells before `at`
pub record Fillable (sheet : List ℕ) (p : Problem) (s : ℕ) (choices values : List ℕ) (at : ℕ) : Type 0 where
  pub positive : 1 ≤ s
  pub size : s ≤ max_size
  pub accepted : Accepted sheet p
  pub counted : choices ≡ choices_of s (signature_in sheet p.signature)
  pub few : length choices ≤ max_plain_cells
  pub held : length values ≡ max_plain_cells
  pub reached : at ≤ length choices
  pub before : in_range s (take at (cell_kinds s (signature_in sheet p.signature))) (take at values) ≡ true

-- the first values of the cells from `at` on that make a model with those before
unfoldable pub filled_from : List ℕ → Problem → ℕ → List ℕ → List ℕ → ℕ → Option (List ℕ)
filled_from sheet p s choices values at =
    first_list (map up_to (drop at choices)) (λ v. is_model s (problem_in sheet p).symbols (problem_in sheet p).clauses (take at values ++ v))

-- the tables with these values from `at` on, or the tables as they were
abbrev pub filling : PlainCells → ℕ → Option (List ℕ) → rust.Result PlainCells PlainCells
filling cells at none = Err cells
filling cells at (some v) = Ok (record { values = put cells.values at v })

-- the model that was found
abbrev pub model_in : List ℕ → Problem → ℕ → rust.Option PlainCells → Option (List ℕ)
model_in sheet p s (Some cells) = some (cells_of sheet p cells.values s)
model_in sheet p s None = none
