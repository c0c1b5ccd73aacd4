-- Models: cases in which each clause has a true literal, whichever elements its variables stand for (sources 000 and 004).
use Rattle.std.specs.Prelude.{ℕ, ◌≡◌, List}
use Rattle.theory.specs.Cells.{interpretation}
use Rattle.theory.specs.Refusals.{answer}
use Rattle.theory.specs.Problem.{Problem}
use Rattle.theory.specs.CaseText.{Case, read_case}
use Rattle.theory.specs.Claims.Truth.{AllValid}

-- every clause of the problem is true in the case under every assignment
abbrev pub IsTrue : Problem → Case → Type 0
IsTrue p k = AllValid (interpretation k.size p.symbols k.values) k.size p.clauses

-- the text is that of a case of this size, and the case is a model of the problem
pub record Model (p : Problem) (size : ℕ) (text : List ℕ) : Type 0 where
  pub case : Case
  pub read : read_case p.symbols text ≡ answer case
  pub sized : case.size ≡ size
  pub truth : IsTrue p case
