-- Demand 1 of the calls: every answer is a result or a refusal with one of the operation's numbers, and a refused call leaves every lent byte and number as it was.
-- That the calls ask nothing is their contracts in `src/lib.rt`, which have no `requires`; that they end is part of their being proved.
use Rattle.std.specs.Prelude.{ℕ, ◌≡◌, Bool, true, false, List, [], ◌∷◌, ◌++◌}
use Rattle.theory.specs.Lists.{up_from, elem}
use Rattle.theory.specs.Refusals.{Refusal, Answer, answer, refused}
use Rattle.answers.specs.Answers.{FindAnswer, ExplainAnswer, JudgeAnswer, ReadAnswer, WriteAnswer, read_in, judge_in, explain_in, length_in, find_in}
use Rattle.answers.specs.Calls.{ReadCall, JudgeCall, ExplainCall, WriteCall, ReadBackCall, SettingCall, PlainCall}
use Rattle.finding.specs.Calls.{AllowedAnswer, allowed_in, FindCall}
use Rattle.importing.specs.Calls.{TptpCall}
use Rattle.case_forms.specs.Calls.{RenumberCall, LeastFormCall}
use Rattle.accepting.specs.Calls.{SolverAnswer, solver_in, FromSolverCall}
use Rattle.uniting.specs.Calls.{MergeAnswer, written_in, MergeCall}

-- The numbers that documents 01 and 02 give each operation. Read: 1 to 7
abbrev pub read_numbers : List ℕ
read_numbers = up_from 1 7

-- Judge and Explain: 1 to 7, and 12
abbrev pub judge_numbers : List ℕ
judge_numbers = up_from 1 7 ++ (12 ∷ [])

-- Write: 1 to 9, and 11
abbrev pub write_numbers : List ℕ
write_numbers = up_from 1 9 ++ (11 ∷ [])

-- Read back: 1 to 8, 11, 13 and 14
abbrev pub read_back_numbers : List ℕ
read_back_numbers = up_from 1 8 ++ (11 ∷ 13 ∷ 14 ∷ [])

-- Setting: 1 to 7, 11 and 12
abbrev pub setting_numbers : List ℕ
setting_numbers = up_from 1 7 ++ (11 ∷ 12 ∷ [])

-- Renumber: 1 to 7, 11, 12 and 25
abbrev pub renumber_numbers : List ℕ
renumber_numbers = up_from 1 7 ++ (11 ∷ 12 ∷ 25 ∷ [])

-- Least form: 1 to 7, 11 and 12
abbrev pub least_form_numbers : List ℕ
least_form_numbers = up_from 1 7 ++ (11 ∷ 12 ∷ [])

-- Find: 1 to 11, and 24
abbrev pub find_numbers : List ℕ
find_numbers = up_from 1 11 ++ (24 ∷ [])

-- Find plain: 1 to 8, 11 and 20
abbrev pub plain_numbers : List ℕ
plain_numbers = up_from 1 8 ++ (11 ∷ 20 ∷ [])

-- From TPTP: 11, and 15 to 17
abbrev pub tptp_numbers : List ℕ
tptp_numbers = 11 ∷ up_from 15 3

-- From solver: 1 to 8, 11, 14, 18 and 19
abbrev pub solver_numbers : List ℕ
solver_numbers = up_from 1 8 ++ (11 ∷ 14 ∷ 18 ∷ 19 ∷ [])

-- Merge: 1 to 7, 11, 22 and 23
abbrev pub merge_numbers : List ℕ
merge_numbers = up_from 1 7 ++ (11 ∷ 22 ∷ 23 ∷ [])

-- the numbers of Write, Read back and Find: 21 too in the mode of named terms
abbrev pub numbers_in : Bool → List ℕ → List ℕ
numbers_in false numbers = numbers
numbers_in true numbers = numbers ++ (21 ∷ [])

-- the refusal's number is one of these
abbrev pub NumberOf : List ℕ → Refusal → Type 0
NumberOf numbers q = elem q.number numbers ≡ true

-- a result, or a refusal of which this holds
abbrev pub ResultOr : {A : Type 0} → (Refusal → Type 0) → Answer A → Type 0
ResultOr P (answer a) = Unit {0}
ResultOr P (refused q) = P q

-- it holds of every call
pub record Demand1 : Type 0 where
  pub read : (sheet : List ℕ) (r : ReadAnswer) → ReadCall sheet r → ResultOr (NumberOf read_numbers) (read_in r)
  pub judge : (sheet case : List ℕ) (r : JudgeAnswer) → JudgeCall sheet case r → ResultOr (NumberOf judge_numbers) (judge_in r)
  pub explain : (sheet case : List ℕ) (r : ExplainAnswer) → ExplainCall sheet case r → ResultOr (NumberOf judge_numbers) (explain_in r)
  pub write : (sheet : List ℕ) (size : ℕ) (named symmetry : Bool) (r : WriteAnswer) (output output' : List ℕ) → WriteCall sheet size named symmetry r output output'
      → ResultOr (λ q. NumberOf (numbers_in named write_numbers) q × (output' ≡ output)) (length_in r)
  pub read_back : (sheet : List ℕ) (size : ℕ) (named : Bool) (setting : List ℕ) (r : WriteAnswer) (output output' : List ℕ) → ReadBackCall sheet size named setting r output output'
      → ResultOr (λ q. NumberOf (numbers_in named read_back_numbers) q × (output' ≡ output)) (length_in r)
  pub setting : (sheet case : List ℕ) (r : WriteAnswer) (output output' : List ℕ) → SettingCall sheet case r output output'
      → ResultOr (λ q. NumberOf setting_numbers q × (output' ≡ output)) (length_in r)
  pub renumber : (sheet case list : List ℕ) (r : WriteAnswer) (output output' : List ℕ) → RenumberCall sheet case list r output output'
      → ResultOr (λ q. NumberOf renumber_numbers q × (output' ≡ output)) (length_in r)
  pub least_form : (sheet case : List ℕ) (r : WriteAnswer) (output output' : List ℕ) → LeastFormCall sheet case r output output'
      → ResultOr (λ q. NumberOf least_form_numbers q × (output' ≡ output)) (length_in r)
  pub find : (sheet : List ℕ) (low high : ℕ) (named symmetry : Bool) (a : ℕ) (r : AllowedAnswer) (work work' output output' : List ℕ) → FindCall sheet low high named symmetry a r work work' output output'
      → ResultOr (λ q. NumberOf (numbers_in named find_numbers) q × (work' ≡ work) × (output' ≡ output)) (allowed_in r)
  pub find_plain : (sheet : List ℕ) (low high : ℕ) (r : FindAnswer) (output output' : List ℕ) → PlainCall sheet low high r output output'
      → ResultOr (λ q. NumberOf plain_numbers q × (output' ≡ output)) (find_in r)
  pub from_tptp : (text : List ℕ) (r : WriteAnswer) (output output' : List ℕ) → TptpCall text r output output'
      → ResultOr (λ q. NumberOf tptp_numbers q × (output' ≡ output)) (length_in r)
  pub from_solver : (sheet : List ℕ) (size : ℕ) (text : List ℕ) (r : SolverAnswer) (output output' : List ℕ) → FromSolverCall sheet size text r output output'
      → ResultOr (λ q. NumberOf solver_numbers q × (output' ≡ output)) (solver_in r)
  pub merge : (first second : List ℕ) (r : MergeAnswer) (output output' : List ℕ) → MergeCall first second r output output'
      → ResultOr (λ q. NumberOf merge_numbers q × (output' ≡ output)) (length_in (written_in r))
