-- Answers from an outside solver (document 02, slip 7): a case, claimed none, or a refusal; and the output afterwards.
use Rattle.std.specs.Prelude.{ℕ, List, leb, length}
use Rattle.theory.specs.Cells.{is_model}
use Rattle.theory.specs.Propositional.{prop_count}
use Rattle.theory.specs.Valuation.{is_functional, read_back}
use Rattle.theory.specs.Refusals.{Answer, answer, refused, unplaced, needing, ◌>>=◌, check, or_refuse}
use Rattle.theory.specs.Problem.{Problem}
use Rattle.theory.specs.CaseText.{case_text, case_length}
use Rattle.theory.specs.Columns.{placed_problem}
use Rattle.theory.specs.Operations.{is_size, over}
use Rattle.solver.specs.Replies.{Reply, claims_none, states, read_reply}

-- what comes of a solver's text: a case that is a model, or the solver's claim that there is none, which is not our none
pub data Outcome (A : Type 0) : Type 0 where
  model_case : A → Outcome A
  claimed_none : Outcome A

-- the case that a stated setting says, given an output of so many bytes: 14, 19, 11, or its text
unfoldable pub stated_case : Problem → ℕ → ℕ → List ℕ → Answer (Outcome (List ℕ))
stated_case p size room σ = do
  _ ← check (is_functional size p.symbols σ) (unplaced 14)
  _ ← check (is_model size p.symbols p.clauses (read_back size p.symbols σ)) (unplaced 19)
  _ ← check (leb (case_length size p.symbols) room) (needing 11 (case_length size p.symbols))
  answer (model_case (case_text size p.symbols (read_back size p.symbols σ)))

-- what comes of a reply; claimed none whatever the output's length
abbrev pub outcome_of : Problem → ℕ → ℕ → Reply → Answer (Outcome (List ℕ))
outcome_of p size room claims_none = answer claimed_none
outcome_of p size room (states σ) = stated_case p size room σ

-- what comes of a solver's text, given an output of so many bytes: the sheet's numbers, 8, 18, then claimed none, or 14, 19, 11, or the case
unfoldable pub solver_text : List ℕ → ℕ → List ℕ → ℕ → Answer (Outcome (List ℕ))
solver_text sheet size text room = do
  p ← placed_problem sheet
  _ ← check (is_size size) (unplaced 8)
  r ← or_refuse (read_reply (prop_count size p.symbols) text) (unplaced 18)
  outcome_of p size room r

-- what is answered: the length of the case, or claimed none
abbrev pub solver_answer : Answer (Outcome (List ℕ)) → Answer (Outcome ℕ)
solver_answer (answer (model_case text)) = answer (model_case (length text))
solver_answer (answer claimed_none) = answer claimed_none
solver_answer (refused r) = refused r

-- the output afterwards: the case at its front; else unchanged
abbrev pub solver_output : Answer (Outcome (List ℕ)) → List ℕ → List ℕ
solver_output (answer (model_case text)) out = over text out
solver_output (answer claimed_none) out = out
solver_output (refused r) out = out
