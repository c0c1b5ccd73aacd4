-- Columns, of the calls (document 02, slip 1): where the refusal of a sheet or a case points. What each record says of a column is `theory/specs/Claims/Columns`.
use Rattle.std.specs.Prelude.{ℕ, suc, ◌≤◌, ◌≡◌, ◌⊎◌, Bool, true, false, List, length}
use Rattle.theory.specs.Refusals.{Refusal, answer, refused}
use Rattle.theory.specs.Problem.{Problem, read_problem}
use Rattle.theory.specs.DueLines.{first_line, from_line, due_in_sheet, sheet_symbols}
use Rattle.theory.specs.Claims.Columns.{two_on, twelve_on, ByteBeyondHelp, OverNumber, BadName, WordBeyondHelp, FirstUnknown, OverLimit}
use Rattle.answers.specs.Answers.{FindAnswer, ExplainAnswer, JudgeAnswer, ReadAnswer, WriteAnswer, read_in, judge_in, explain_in, length_in, find_in}
use Rattle.answers.specs.Calls.{ReadCall, JudgeCall, ExplainCall, WriteCall, ReadBackCall, SettingCall, PlainCall}
use Rattle.finding.specs.Calls.{AllowedAnswer, allowed_in, FindCall}
use Rattle.case_forms.specs.Calls.{RenumberCall, LeastFormCall}
use Rattle.accepting.specs.Calls.{SolverAnswer, solver_in, FromSolverCall}
use Rattle.uniting.specs.Calls.{MergeAnswer, written_in, sheet_told, MergeCall}

-- the column of a 7 on line l; in the mode of named terms always 1
abbrev pub SevenAt : Bool → List ℕ → ℕ → ℕ → Type 0
SevenAt false sheet l column = OverLimit (sheet_symbols sheet) (due_in_sheet sheet l) (first_line (from_line l sheet)) column
SevenAt true sheet l column = column ≡ 1

-- of the column that a sheet's refusal on line l names, the first being line 0
pub record InSheet (named : Bool) (sheet : List ℕ) (l number column : ℕ) : Type 0 where
  pub numbered : (2 ≤ number) × (number ≤ 7)
  pub two : number ≡ 2 → ByteBeyondHelp two_on sheet l column
  pub three : number ≡ 3 → OverNumber (due_in_sheet sheet l) (first_line (from_line l sheet)) column
  pub four : number ≡ 4 → BadName sheet l column
  pub five : number ≡ 5 → FirstUnknown (sheet_symbols sheet) (due_in_sheet sheet l) (first_line (from_line l sheet)) column
  pub six : number ≡ 6 → WordBeyondHelp (sheet_symbols sheet) (due_in_sheet sheet l) (first_line (from_line l sheet)) column
  pub seven : number ≡ 7 → SevenAt named sheet l column
  -- a byte of the line, or one past its end
  pub within : (1 ≤ column) × (column ≤ suc (length (first_line (from_line l sheet))))

-- the number of a refusal of the sheet without a line: 1, and in the mode of named terms 21
abbrev pub Unlined : Bool → ℕ → Type 0
Unlined false number = number ≡ 1
Unlined true number = (number ≡ 1) ⊎ (number ≡ 21)

-- a refusal of the sheet: with a line it names a column there, without one it names none
pub record OfTheSheet (named : Bool) (sheet : List ℕ) (q : Refusal) : Type 0 where
  pub lined : (l : ℕ) → q.place.line ≡ suc l → InSheet named sheet l q.number q.place.column
  pub unlined : q.place.line ≡ 0 → Unlined named q.number × (q.place.column ≡ 0)

-- a refusal of the case: 12, on a line of it, at the first byte beyond help
pub record OfTheCase (sheet case : List ℕ) (q : Refusal) : Type 0 where
  pub problem : Problem
  pub sheet_read : read_problem sheet ≡ answer problem
  pub number : q.number ≡ 12
  pub line : ℕ
  pub lined : q.place.line ≡ suc line
  pub beyond : ByteBeyondHelp (twelve_on problem.symbols) case line q.place.column

-- a refusal that names no place
abbrev pub NoPlace : Refusal → Type 0
NoPlace q = (q.place.line ≡ 0) × (q.place.column ≡ 0)

-- a refusal of two sheets, and the number of the sheet that it points into: 1 or 2, or 0 with one that names no place
pub data OfTwoSheets (first second : List ℕ) (q : Refusal) (sheet : ℕ) : Type 0 where
  in_first : sheet ≡ 1 → OfTheSheet false first q → OfTwoSheets first second q sheet
  in_second : sheet ≡ 2 → OfTheSheet false second q → OfTwoSheets first second q sheet
  in_neither : sheet ≡ 0 → NoPlace q → OfTwoSheets first second q sheet

-- it holds of every call
pub record Columns : Type 0 where
  pub read : (sheet : List ℕ) (r : ReadAnswer) → ReadCall sheet r → (q : Refusal) → read_in r ≡ refused q → OfTheSheet false sheet q
  pub judge : (sheet case : List ℕ) (r : JudgeAnswer) → JudgeCall sheet case r → (q : Refusal) → judge_in r ≡ refused q → OfTheSheet false sheet q ⊎ OfTheCase sheet case q
  pub explain : (sheet case : List ℕ) (r : ExplainAnswer) → ExplainCall sheet case r → (q : Refusal) → explain_in r ≡ refused q → OfTheSheet false sheet q ⊎ OfTheCase sheet case q
  pub write : (sheet : List ℕ) (size : ℕ) (named symmetry : Bool) (r : WriteAnswer) (output output' : List ℕ) → WriteCall sheet size named symmetry r output output'
      → (q : Refusal) → length_in r ≡ refused q → OfTheSheet named sheet q ⊎ NoPlace q
  pub read_back : (sheet : List ℕ) (size : ℕ) (named : Bool) (setting : List ℕ) (r : WriteAnswer) (output output' : List ℕ) → ReadBackCall sheet size named setting r output output'
      → (q : Refusal) → length_in r ≡ refused q → OfTheSheet named sheet q ⊎ NoPlace q
  pub setting : (sheet case : List ℕ) (r : WriteAnswer) (output output' : List ℕ) → SettingCall sheet case r output output'
      → (q : Refusal) → length_in r ≡ refused q → OfTheSheet false sheet q ⊎ (OfTheCase sheet case q ⊎ NoPlace q)
  pub renumber : (sheet case list : List ℕ) (r : WriteAnswer) (output output' : List ℕ) → RenumberCall sheet case list r output output'
      → (q : Refusal) → length_in r ≡ refused q → OfTheSheet false sheet q ⊎ (OfTheCase sheet case q ⊎ NoPlace q)
  pub least_form : (sheet case : List ℕ) (r : WriteAnswer) (output output' : List ℕ) → LeastFormCall sheet case r output output'
      → (q : Refusal) → length_in r ≡ refused q → OfTheSheet false sheet q ⊎ (OfTheCase sheet case q ⊎ NoPlace q)
  pub find : (sheet : List ℕ) (low high : ℕ) (named symmetry : Bool) (a : ℕ) (r : AllowedAnswer) (work work' output output' : List ℕ) → FindCall sheet low high named symmetry a r work work' output output'
      → (q : Refusal) → allowed_in r ≡ refused q → OfTheSheet named sheet q ⊎ NoPlace q
  pub find_plain : (sheet : List ℕ) (low high : ℕ) (r : FindAnswer) (output output' : List ℕ) → PlainCall sheet low high r output output'
      → (q : Refusal) → find_in r ≡ refused q → OfTheSheet false sheet q ⊎ NoPlace q
  pub from_solver : (sheet : List ℕ) (size : ℕ) (text : List ℕ) (r : SolverAnswer) (output output' : List ℕ) → FromSolverCall sheet size text r output output'
      → (q : Refusal) → solver_in r ≡ refused q → OfTheSheet false sheet q ⊎ NoPlace q
  pub merge : (first second : List ℕ) (r : MergeAnswer) (output output' : List ℕ) → MergeCall first second r output output'
      → (q : Refusal) → length_in (written_in r) ≡ refused q → OfTwoSheets first second q (sheet_told r)
