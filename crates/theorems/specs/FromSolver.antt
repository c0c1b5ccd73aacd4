-- From solver, of the calls (document 02, slip 7): a case that comes out is a model; lines that state a setting of a model give that model; claimed none only where the solver claims it.
use Rattle.std.specs.Prelude.{ℕ, ◌≤◌, ◌≡◌, ◌↔◌, true, false, List, length, take, Ok}
use Rattle.theory.specs.Refusals.{answer}
use Rattle.theory.specs.Problem.{Problem}
use Rattle.theory.specs.CaseText.{case_length}
use Rattle.theory.specs.Columns.{placed_problem}
use Rattle.theory.specs.Operations.{is_size}
use Rattle.solver.specs.Claims.Stating.{States, ClaimsNone}
use Rattle.accepting.specs.declared.SolverResult.TheVariants.{Case, ClaimedNone}
use Rattle.accepting.specs.Calls.{SolverAnswer, FromSolverCall}
use Rattle.theorems.specs.Models.{Model}
use Rattle.theorems.specs.Demand3.{ReadBackAs, AlwaysReadBackAs}

-- the answer r and the output after the call: the case stands at its front
pub record LeavesCase (r : SolverAnswer) (output case : List ℕ) : Type 0 where
  pub answered : r ≡ Ok (Case (length case))
  pub stands : take (length case) output ≡ case

-- some call leaves this case for the solver's text
pub record CaseLeft (sheet : List ℕ) (size : ℕ) (text case : List ℕ) : Type 0 where
  pub answer : SolverAnswer
  pub output : List ℕ
  pub output' : List ℕ
  pub call : FromSolverCall sheet size text answer output output'
  pub leaves : LeavesCase answer output' case

-- of a sheet and a size that are not refused; `States σ text` says that the text is laid out as asked for and states the setting σ
pub record FromSolver (sheet : List ℕ) (p : Problem) (size : ℕ) : Type 0 where
  -- a case that comes out is a model of the sheet, and the text states a setting that is read back as it
  pub model : (text case : List ℕ) → CaseLeft sheet size text case → Model p size case × ((σ : List ℕ) × States σ text × AlwaysReadBackAs sheet p size false σ case)
  -- each model has a setting,
  pub setting : (case : List ℕ) → Model p size case → (σ : List ℕ) × AlwaysReadBackAs sheet p size false σ case
  -- and every text that states a setting of it gives that model, if the output is large enough
  pub taken : (text case σ : List ℕ) → Model p size case → ReadBackAs sheet size false σ case → States σ text
      → (r : SolverAnswer) (output output' : List ℕ) → FromSolverCall sheet size text r output output' → case_length size p.symbols ≤ length output → LeavesCase r output' case
  -- claimed none is answered exactly to a text that says s UNSATISFIABLE, without v lines, whatever the output,
  pub none : (text : List ℕ) (r : SolverAnswer) (output output' : List ℕ) → FromSolverCall sheet size text r output output' → (r ≡ Ok ClaimedNone) ↔ ClaimsNone text
  -- and leaves it as it was
  pub kept : (text : List ℕ) (r : SolverAnswer) (output output' : List ℕ) → FromSolverCall sheet size text r output output' → r ≡ Ok ClaimedNone → output' ≡ output

-- it holds wherever sheet and size are not refused
abbrev pub FromSolverHolds : Type 0
FromSolverHolds = (sheet : List ℕ) (p : Problem) (size : ℕ) → placed_problem sheet ≡ answer p → is_size size ≡ true → FromSolver sheet p size
