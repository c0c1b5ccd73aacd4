-- Find plain (document 02, slip 8): the search that fills cells in order with the least value first and judges full cases by truth alone. What it finds is the least model at the
-- smallest size, as Find's is without the constant clauses; what it refuses is its own.
use Rattle.std.specs.Prelude.{ℕ, ◌&&◌, List, leb}
use Rattle.theory.specs.Cells.{cell_count}
use Rattle.theory.specs.Refusals.{Answer, answer, unplaced, needing, ◌>>=◌, check}
use Rattle.theory.specs.CaseText.{case_length}
use Rattle.theory.specs.Columns.{placed_problem}
use Rattle.theory.specs.Least.{smallest_model}
use Rattle.theory.specs.Operations.{max_size, Search, search_of}

-- the most cells of all symbols
abbrev pub max_plain_cells : ℕ
max_plain_cells = 64

-- what Find plain finds, given an output of so many bytes
unfoldable pub plain_result : List ℕ → ℕ → ℕ → ℕ → Answer Search
plain_result sheet low high room = do
  p ← placed_problem sheet
  _ ← check (leb 1 low && leb high max_size && leb low high) (unplaced 8)
  _ ← check (leb (cell_count high p.symbols) max_plain_cells) (unplaced 20)
  _ ← check (leb (case_length high p.symbols) room) (needing 11 (case_length high p.symbols))
  answer (search_of p low high (smallest_model p low high))
