-- The sheet read: what is written as a sheet is read back as the problem that was written.
use Rattle.std.specs.Prelude.{◌≤◌, ◌≡◌, length}
use Rattle.theory.specs.Problem.{max_bytes, Problem, read_problem}
use Rattle.theory.specs.Refusals.{answer}
use Rattle.theory.specs.WellFormed.{WellFormed}
use Rattle.theory.specs.SheetText.{sheet_text}

-- the theorem
pub record SheetRead : Type 0 where
  pub read : (p : Problem) → WellFormed p → length (sheet_text p) ≤ max_bytes → read_problem (sheet_text p) ≡ answer p
