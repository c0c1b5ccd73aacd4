-- The texts that are judged models are the texts of models.
use Prim.Native.Nat.{ℕ, zero, ◌<◌}
use mathlib.Core.Path.{◌≡◌, sym, ap, ◌∙◌}
use mathlib.Core.Bool.{true}
use mathlib.Core.List.{List}
use Rattle.theory.specs.Cells.{is_model}
use Rattle.theory.specs.Refusals.{answer}
use Rattle.theory.specs.Problem.{Problem, read_problem}
use Rattle.theory.specs.CaseText.{Case, read_case}
use Rattle.theory.specs.Operations.{judge_answer}
use Rattle.theory.specs.Claims.ReadingBack.{ModelText}
use Rattle.theory.proofs.PlacedReading.{placed-problem, placed-case}
use Rattle.theory.proofs.Answers.{bind-step}
use Rattle.theory.proofs.CaseText.{read-exactly}
use Rattle.theory.proofs.ModelTexts.{is-model-text}
use Rattle.theory.proofs.Truth.{truth}
use Rattle.naming.specs.Claims.ReadingBack.{SheetModel}
use Rattle.theorems.specs.Models.{IsTrue, Model}

-- what is computed to be a model is one, and the other way
module _ (p : Problem) (text : List ℕ) (k : Case) (read : read_case p.symbols text ≡ answer k) where
  positive : zero < k.size
  positive = (read-exactly p.symbols text k read).positive

  pub true-if-model : is_model k.size p.symbols p.clauses k.values ≡ true → IsTrue p k
  true-if-model = (truth.model k.size p.symbols p.clauses k.values positive).0

  pub model-if-true : IsTrue p k → is_model k.size p.symbols p.clauses k.values ≡ true
  model-if-true = (truth.model k.size p.symbols p.clauses k.values positive).1

module _ (sheet : List ℕ) (p : Problem) (read : read_problem sheet ≡ answer p) (size : ℕ) (text : List ℕ) where
  -- a text that is judged a model is that of a model
  unfoldable pub judged-is-model : ModelText sheet p size text → Model p size text
  judged-is-model m =
      record {
        case = m.case;
        read = m.read;
        sized = m.sized;
        truth = true-if-model p text m.case m.read (ap (λ (s : ℕ). is_model s p.symbols p.clauses m.case.values) m.sized ∙ (is-model-text sheet p read size text m).model);
      }

  -- the text of a model is judged one
  pub model-is-judged : Model p size text → ModelText sheet p size text
  unfolding judge_answer
  model-is-judged m =
      record {
        case = m.case;
        read = m.read;
        sized = m.sized;
        model = bind-step _ _ p (answer true) (placed-problem sheet p read)
            (bind-step _ _ m.case (answer true) (placed-case p.symbols text m.case m.read) (ap answer (model-if-true p text m.case m.read m.truth)));
      }

-- a model of the sheet as handed in is the text of one, and the other way
unfoldable pub sheet-model-is : (p : Problem) (size : ℕ) (text : List ℕ) → SheetModel p size text → Model p size text
sheet-model-is p size text m =
    record {
      case = m.case;
      read = m.read;
      sized = m.sized;
      truth = true-if-model p text m.case m.read (ap (λ (s : ℕ). is_model s p.symbols p.clauses m.case.values) m.sized ∙ m.model);
    }

unfoldable pub is-sheet-model : (p : Problem) (size : ℕ) (text : List ℕ) → Model p size text → SheetModel p size text
is-sheet-model p size text m =
    record {
      case = m.case;
      read = m.read;
      sized = m.sized;
      model = ap (λ (s : ℕ). is_model s p.symbols p.clauses m.case.values) (sym m.sized) ∙ model-if-true p text m.case m.read m.truth;
    }
