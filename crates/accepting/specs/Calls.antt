-- One call of From solver: what it was handed, the answer r, and the lent output before and after.
use Rattle.std.specs.Prelude.{ℕ, ◌≡◌, List, length, Ok, Err}
use Rattle.std.specs.Prelude as rust
use Rattle.theory.specs.Refusals.{Answer, answer, refused}
use Rattle.answers.specs.declared.Refusal.{Refusal}
use Rattle.answers.specs.Answers.{refusal_in}
use Rattle.solver.specs.SolverText.{Outcome, model_case, claimed_none, solver_text, solver_answer, solver_output}
use Rattle.accepting.specs.declared.SolverResult.{SolverResult}
use Rattle.accepting.specs.declared.SolverResult.TheVariants.{Case, ClaimedNone}

-- what the code's type of the answer is
abbrev pub SolverAnswer : Type 0
SolverAnswer = rust.Result SolverResult Refusal

-- the length of the case, or claimed none
abbrev pub solver_in : SolverAnswer → Answer (Outcome ℕ)
solver_in (Ok (Case n)) = answer (model_case n)
solver_in (Ok ClaimedNone) = answer claimed_none
solver_in (Err r) = refused (refusal_in r)

-- a call with this outcome, or refused
pub record OutcomeCall (outcome : Answer (Outcome (List ℕ))) (r : SolverAnswer) (output output' : List ℕ) : Type 0 where
  pub answer : solver_in r ≡ solver_answer outcome
  pub left : output' ≡ solver_output outcome output

-- From solver
abbrev pub FromSolverCall : List ℕ → ℕ → List ℕ → SolverAnswer → List ℕ → List ℕ → Type 0
FromSolverCall sheet size text r output output' = OutcomeCall (solver_text sheet size text (length output)) r output output'
