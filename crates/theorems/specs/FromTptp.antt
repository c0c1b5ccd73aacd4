-- From TPTP, of the calls (document 02, slip 4): the sheet left has the models of the text's clauses; where a 15 points; the order of refusals.
use Rattle.std.specs.Prelude.{ℕ, ◌≡◌, ◌⊎◌, ◌↔◌, List, [], ◌++◌, length, Ok, true}
use Rattle.std.proofs.Math.Option.{none, some}
use Rattle.theory.specs.Cells.{interpretation}
use Rattle.theory.specs.Refusals.{Refusal, answer, refused, at_place}
use Rattle.theory.specs.Problem.{Problem, read_problem}
use Rattle.theory.specs.CaseText.{Case, read_case}
use Rattle.theory.specs.Least.{or_else}
use Rattle.theory.specs.Operations.{counts}
use Rattle.tptp.specs.Trees.{Statement}
use Rattle.tptp.specs.Truth.{AllNamesValid}
use Rattle.tptp.specs.Symbols.{problem_of}
use Rattle.tptp.specs.Places.{place_of}
use Rattle.tptp.specs.Tptp.{read_file, clauses_of_file, Fault}
use Rattle.tptp.specs.Claims.Models.{meaning}
use Rattle.tptp.specs.Claims.Order.{first_fault_from}
use Rattle.tptp.specs.Claims.Deciding.{declared_in, last_fault}
use Rattle.tptp.specs.Claims.PlacesOnBytes.{BeyondHelp, MissingText}
use Rattle.answers.specs.Answers.{JudgeAnswer, ReadAnswer, WriteAnswer, read_in, length_in}
use Rattle.answers.specs.Calls.{ReadCall, JudgeCall}
use Rattle.importing.specs.Calls.{TptpCall}
use Rattle.theorems.specs.Leaving.{Leaves}

-- the problem that the clauses of a text become
abbrev pub problem_in : List ℕ → Problem
problem_in text = problem_of (clauses_of_file (read_file text))

-- every clause of the text is true in the case under every assignment, a name meaning its own table
abbrev pub TrueInCase : List ℕ → Case → Type 0
TrueInCase text k = AllNamesValid (meaning (interpretation k.size (problem_in text).symbols k.values) (problem_in text).symbols) k.size (clauses_of_file (read_file text))

-- a call left this sheet
pub record SheetLeft (text sheet : List ℕ) : Type 0 where
  pub answer : WriteAnswer
  pub output : List ℕ
  pub output' : List ℕ
  pub call : TptpCall text answer output output'
  pub leaves : Leaves answer output' sheet

-- a call was refused
pub record SheetRefused (text : List ℕ) (q : Refusal) : Type 0 where
  pub answer : WriteAnswer
  pub output : List ℕ
  pub output' : List ℕ
  pub call : TptpCall text answer output output'
  pub said : length_in answer ≡ refused q

-- the theorem
pub record FromTptp : Type 0 where
  -- the sheet left is read as the problem that the text's clauses become
  pub sheet-read : (text sheet : List ℕ) → SheetLeft text sheet → read_problem sheet ≡ answer (problem_in text)
  -- so Read takes it
  pub taken : (text sheet : List ℕ) → SheetLeft text sheet → (r : ReadAnswer) → ReadCall sheet r → read_in r ≡ answer (counts (problem_in text))
  -- and Judge says yes to a case of it exactly if every clause of the text is true in the case
  pub models : (text sheet case : List ℕ) (k : Case) → SheetLeft text sheet → read_case (problem_in text).symbols case ≡ answer k
      → (r : JudgeAnswer) → JudgeCall sheet case r → (r ≡ Ok true) ↔ TrueInCase text k
  -- a 15 points at a token that nothing after it puts right, or at the end of a text that more puts right
  pub places : (text : List ℕ) (q : Refusal) → SheetRefused text q → q.number ≡ 15 → BeyondHelp text q ⊎ MissingText text q
  -- a text of which the first statements are whole and clean is refused no earlier than in the next one: for a fault of that or of a later one, for the 15, or for the sheet's bytes
  pub no-earlier : (text : List ℕ) (ss rest : List Statement) → (read_file text).statements ≡ ss ++ rest → first_fault_from [] 0 ss ≡ none
      → (q : Refusal) → SheetRefused text q → ¬ (q.number ≡ 11)
      → (f : Fault) × (or_else (first_fault_from (declared_in ss) (length ss) rest) (last_fault text) ≡ some f) × (q ≡ at_place f.number (place_of text f.place))
