-- Solver answers on bytes: a case that comes out is a model; lines stating the setting of a model are taken; claimed none is said exactly where it is claimed.
use Rattle.std.specs.Prelude.{ℕ, ◌≤◌, ◌≡◌, ◌↔◌, true, List}
use Rattle.theory.specs.Valuation.{is_valuation}
use Rattle.theory.specs.Refusals.{answer, refused, unplaced}
use Rattle.theory.specs.Problem.{Problem}
use Rattle.theory.specs.CaseText.{case_length}
use Rattle.theory.specs.Columns.{placed_problem}
use Rattle.theory.specs.Operations.{is_size, read_back_text}
use Rattle.theory.specs.Claims.ReadingBack.{ModelText}
use Rattle.solver.specs.SolverText.{model_case, claimed_none, stated_case, solver_text}
use Rattle.solver.specs.Claims.Stating.{States, ClaimsNone}

-- the theorem, of a sheet and size that are not refused and a solver's text
pub record SolverAnswers (sheet : List ℕ) (p : Problem) (size : ℕ) (text : List ℕ) : Type 0 where
  -- a case that comes out is a model, and the text states a setting that is read back as it
  pub model : (room : ℕ) (c : List ℕ) → solver_text sheet size text room ≡ answer (model_case c)
      → ModelText sheet p size c × ((σ : List ℕ) × States σ text × (read_back_text sheet size σ room ≡ answer c))
  -- each model has a setting, which is read back as it in an output that is large enough
  pub setting : (room : ℕ) (c : List ℕ) → ModelText sheet p size c → case_length size p.symbols ≤ room → (σ : List ℕ) × (read_back_text sheet size σ room ≡ answer c)
  -- lines that state any setting of a model are taken, if the output is large enough
  pub taken : (room : ℕ) (c σ : List ℕ) → ModelText sheet p size c → read_back_text sheet size σ room ≡ answer c → States σ text → solver_text sheet size text room ≡ answer (model_case c)
  -- claimed none is said exactly of texts that claim it, whatever the output's length
  pub none : (room : ℕ) → (solver_text sheet size text room ≡ answer claimed_none) ↔ ClaimsNone text
  -- where lines state a setting of V bytes, the rest is 14, 19, 11 or its case
  pub stated : (room : ℕ) (σ : List ℕ) → is_valuation size p.symbols σ ≡ true → States σ text → solver_text sheet size text room ≡ stated_case p size room σ
  -- 18 is said exactly of texts that state no setting of V bytes and do not claim that there is none
  pub eighteen : (room : ℕ) → (solver_text sheet size text room ≡ refused (unplaced 18))
      ↔ (((σ : List ℕ) → is_valuation size p.symbols σ ≡ true → States σ text → ⊥) × (ClaimsNone text → ⊥))

-- it holds wherever sheet and size are not refused
abbrev pub SolverAnswersHold : Type 0
SolverAnswersHold = (sheet : List ℕ) (p : Problem) (size : ℕ) (text : List ℕ) → placed_problem sheet ≡ answer p → is_size size ≡ true → SolverAnswers sheet p size text
