-- What Find plain finds of a problem that was read.
use Rattle.std.specs.Prelude.{ℕ, ◌≤◌, ◌≡◌, List, leb}
use Rattle.theory.specs.Cells.{cell_count}
use Rattle.theory.specs.Refusals.{Answer, answer, unplaced, needing, ◌>>=◌, check}
use Rattle.theory.specs.Problem.{read_problem}
use Rattle.theory.specs.Problem as theory
use Rattle.theory.specs.CaseText.{case_length}
use Rattle.theory.specs.Least.{smallest_model}
use Rattle.theory.specs.Operations.{Search, search_of}
use Rattle.theory.specs.PlainSearch.{max_plain_cells}
use Rattle.syntax.specs.declared.limits.Problem.{Problem}
use Rattle.problem.specs.Problems.{problem_in, Accepted}
use Rattle.plain.specs.Filling.{Searchable}

-- at the sizes from low to high, where nothing is refused
abbrev pub found_within : theory.Problem → ℕ → ℕ → Answer Search
found_within p low high = answer (search_of p low high (smallest_model p low high))

-- and with the refusals that stand before it, given so many bytes of output: 20, 11
unfoldable pub found_in : theory.Problem → ℕ → ℕ → ℕ → Answer Search
found_in p low high room = do
  _ ← check (leb (cell_count high p.symbols) max_plain_cells) (unplaced 20)
  _ ← check (leb (case_length high p.symbols) room) (needing 11 (case_length high p.symbols))
  found_within p low high

-- a problem that was read of the sheet as it stands
pub record ProblemAsRead (sheet : List ℕ) (p : Problem) : Type 0 where
  pub accepted : Accepted sheet p
  pub read : read_problem sheet ≡ answer (problem_in sheet p)

-- a largest size that is not refused, given so many bytes of output
pub record TriableUpTo (sheet : List ℕ) (p : Problem) (high room : ℕ) : Type 0 where
  pub searchable : Searchable sheet p high
  pub case : case_length high (problem_in sheet p).symbols ≤ room
