-- What opening a sheet, and a case of it, answers.
use Rattle.std.specs.Prelude.{◌≡◌, ℕ, Bool, List, take, IfOk, IfErr}
use Rattle.std.specs.Prelude as rust
use Rattle.theory.specs.Syntax.{Signature}
use Rattle.theory.specs.Cells.{cell_count}
use Rattle.theory.specs.Refusals.{answer, refused}
use Rattle.theory.specs.CaseText.{read_case}
use Rattle.theory.specs.Columns.{placed_case}
use Rattle.naming.specs.NamedOperations.{placed_in}
use Rattle.syntax.specs.declared.limits.Problem.{Problem}
use Rattle.syntax.specs.declared.size.DomainSize.{DomainSize}
use Rattle.problem.specs.Problems.{problem_in, Accepted}
use Rattle.problem.specs.Modes.{read_in}
use Rattle.answers.specs.declared.Refusal.{Refusal}
use Rattle.answers.specs.Answers.{refusal_in}

-- r is the problem that is read of the sheet in a mode, or the refusal with its column
pub record SheetOpened (named : Bool) (sheet : List ℕ) (r : rust.Result Problem Refusal) : Type 0 where
  pub read : IfOk r (λ p. read_in named sheet ≡ answer (problem_in sheet p))
  pub accepted : IfOk r (Accepted sheet)
  pub refused : IfErr r (λ q. placed_in named sheet ≡ refused (refusal_in q))

-- r is the size of the case, whose values are the first cells; or the refusal with its column
pub record CaseOpened (g : Signature) (case : List ℕ) (r : rust.Result DomainSize Refusal) (cells : List ℕ) : Type 0 where
  pub read : IfOk r (λ s. read_case g case ≡ answer (record { size = s.0; values = take (cell_count s.0 g) cells }))
  pub refused : IfErr r (λ q. placed_case g case ≡ refused (refusal_in q))
