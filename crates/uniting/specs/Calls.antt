-- One call of Merge: what it was handed, the answer r, and the lent output before and after.
use Rattle.std.specs.Prelude.{ℕ, ◌≡◌, List, length, Ok, Err, Some, None, IfOk, IfErr}
use Rattle.std.specs.Prelude as rust
use Rattle.theory.specs.Refusals.{refused}
use Rattle.theory.specs.Columns.{placed_problem}
use Rattle.syntax.specs.declared.limits.Problem.{Problem}
use Rattle.answers.specs.declared.Refusal.{Refusal}
use Rattle.answers.specs.Answers.{WriteAnswer, refusal_in}
use Rattle.answers.specs.Calls.{WritingCall}
use Rattle.sheet_merging.specs.Merging.{merged_text, which_sheet}
use Rattle.uniting.specs.declared.merge.WhichSheet.{WhichSheet}
use Rattle.uniting.specs.declared.merge.WhichSheet.TheVariants.{First, Second}
use Rattle.uniting.specs.declared.merge.MergeRefusal.{MergeRefusal}
use Rattle.uniting.specs.United.{Sheeted}

-- what the code's type of the answer is
abbrev pub MergeAnswer : Type 0
MergeAnswer = rust.Result ℕ MergeRefusal

-- the number of a sheet, 0 for none
abbrev pub sheet_number : rust.Option WhichSheet → ℕ
sheet_number None = 0
sheet_number (Some First) = 1
sheet_number (Some Second) = 2

-- the answer without the sheet,
abbrev pub written_in : MergeAnswer → WriteAnswer
written_in (Ok n) = Ok n
written_in (Err r) = Err r.refusal

-- and which sheet a refusal points into: 1, 2, or 0 for none
abbrev pub sheet_told : MergeAnswer → ℕ
sheet_told (Ok n) = 0
sheet_told (Err r) = sheet_number r.sheet

-- a refusal of both together
abbrev pub of_both : Refusal → MergeRefusal
of_both r = record { refusal = r; sheet = None }

-- r is the problem of one of the sheets, or the sheet's refusal, which points into it
pub record OneOpened (which : WhichSheet) (sheet : List ℕ) (r : rust.Result Problem MergeRefusal) : Type 0 where
  pub sheeted : IfOk r (Sheeted sheet)
  pub refused : IfErr r (λ q. (placed_problem sheet ≡ refused (refusal_in q.refusal)) × (q.sheet ≡ Some which))

pub record MergeCall (first second : List ℕ) (r : MergeAnswer) (output output' : List ℕ) : Type 0 where
  pub call : WritingCall (merged_text first second (length output)) (written_in r) output output'
  pub sheet : sheet_told r ≡ which_sheet first second
