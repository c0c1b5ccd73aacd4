-- A call that is handed a sheet and a case of it: it is refused where either of them is, and else goes on with what was read.
use Prim.Native.Nat.{ℕ, ◌≤◌}
use mathlib.Core.Path.{◌≡◌, refl, sym, ◌∙◌}
use mathlib.Core.Bool.{false}
use mathlib.Core.List.{List}
use lib.ListN.{length}
use Rattle.theory.specs.Refusals.{Refusal, Answer, answer, refused, ◌>>=◌}
use Rattle.theory.specs.Problem as theory
use Rattle.theory.specs.Problem.{max_bytes, read_problem}
use Rattle.theory.specs.CaseText.{Case, read_case}
use Rattle.theory.specs.Columns.{placed_problem, placed_case}
use Rattle.theory.proofs.Answers.{bind-step, bind-refused}
use Rattle.theory.proofs.Parsing.{read_problem-bytes}
use Rattle.theory.proofs.PlacedReading.{placed-problem, placed-case}
use Rattle.syntax.specs.declared.limits.Problem.{Problem}
use Rattle.syntax.specs.Signatures.{signature_in}
use Rattle.problem.specs.Problems.{problem_in}
use Rattle.problem.specs.Modes.{read_in}
use Rattle.problem.proofs.ModeRead.{plain_in}

-- a sheet that is read plain
module _ (sheet : List ℕ) (p : Problem) (read : read_in false sheet ≡ answer (problem_in sheet p)) where
  plain : read_problem sheet ≡ answer (problem_in sheet p)
  plain = sym (plain_in sheet) ∙ read

  pub sheet-opened : placed_problem sheet ≡ answer (problem_in sheet p)
  sheet-opened = placed-problem sheet (problem_in sheet p) plain

  pub sheet-short : length sheet ≤ max_bytes
  sheet-short = read_problem-bytes sheet (problem_in sheet p) plain

-- what a call does with a sheet and a case of it
abbrev pub opened : {A : Type 0} → (theory.Problem → Case → Answer A) → List ℕ → List ℕ → Answer A
opened go sheet case = placed_problem sheet >>= λ p. placed_case p.symbols case >>= go p

module _ {A : Type 0} (go : theory.Problem → Case → Answer A) (sheet case : List ℕ) where
  pub sheet-stops : (q : Refusal) → placed_problem sheet ≡ refused q → opened go sheet case ≡ refused q
  sheet-stops q e = bind-refused _ _ q e

  module _ (p : Problem) (read : read_in false sheet ≡ answer (problem_in sheet p)) where
    pub case-stops : (q : Refusal) → placed_case (signature_in sheet p.signature) case ≡ refused q → opened go sheet case ≡ refused q
    unfolding problem_in
    case-stops q e = bind-step _ _ _ _ (sheet-opened sheet p read) (bind-refused _ _ q e)

    pub goes_on : (k : Case) → read_case (signature_in sheet p.signature) case ≡ answer k → opened go sheet case ≡ go (problem_in sheet p) k
    unfolding problem_in
    goes_on k e = bind-step _ _ _ _ (sheet-opened sheet p read) (bind-step _ _ _ _ (placed-case (signature_in sheet p.signature) case k e) refl)
