-- One call of each exported operation that is lent a buffer: the struct r that is answered, and each buffer before and after.
use Rattle.std.specs.Prelude.{ℕ, ◌≡◌, Bool, not, List, eqb, length}
use Rattle.theory.specs.Refusals.{Answer}
use Rattle.theory.specs.Operations.{length_answer, output_after, setting_text, Search, find_answer, find_output}
use Rattle.theory.specs.PlainSearch.{plain_result}
use Rattle.naming.specs.NamedOperations.{read_back_text_in}
use Rattle.symmetry.specs.SymmetricOperations.{written_text_with}
use Rattle.allowance.specs.AllowedFind.{Stoppable, find_within, allowed_answer, allowed_output, allowed_work}
use Rattle.renumbered_cases.specs.RenumberedCases.{renumbered_text, least_form_text}
use Rattle.tptp.specs.Tptp.{tptp_text}
use Rattle.solver.specs.SolverText.{solver_text, solver_answer, solver_output}
use Rattle.sheet_merging.specs.Merging.{merged_text, which_sheet}
use Rattle.layouts.specs.declared.WriteOut.{WriteOut}
use Rattle.layouts.specs.declared.FindOut.{FindOut}
use Rattle.layouts.specs.declared.MergeOut.{MergeOut}
use Rattle.layouts.specs.Layouts.{write_out, solver_out, merge_out, find_out, plain_out}

-- a call that writes this text, or is refused
pub record WritingExport (text : Answer (List ℕ)) (r : WriteOut) (output output' : List ℕ) : Type 0 where
  pub answer : r ≡ write_out (length_answer text)
  pub left : output' ≡ output_after text output

-- a switch as a number: 0 is off, every other number on
abbrev pub is_on : ℕ → Bool
is_on n = not (eqb n 0)

-- Write
abbrev pub WriteExport : List ℕ → ℕ → ℕ → ℕ → WriteOut → List ℕ → List ℕ → Type 0
WriteExport sheet size named symmetry r output output' = WritingExport (written_text_with (is_on named) (is_on symmetry) sheet size (length output)) r output output'

-- Read back
abbrev pub ReadBackExport : List ℕ → ℕ → ℕ → List ℕ → WriteOut → List ℕ → List ℕ → Type 0
ReadBackExport sheet size named setting r output output' = WritingExport (read_back_text_in (is_on named) sheet size setting (length output)) r output output'

-- Setting
abbrev pub SettingExport : List ℕ → List ℕ → WriteOut → List ℕ → List ℕ → Type 0
SettingExport sheet case r output output' = WritingExport (setting_text sheet case (length output)) r output output'

-- Renumber
abbrev pub RenumberExport : List ℕ → List ℕ → List ℕ → WriteOut → List ℕ → List ℕ → Type 0
RenumberExport sheet case list r output output' = WritingExport (renumbered_text sheet case list (length output)) r output output'

-- Least form
abbrev pub LeastFormExport : List ℕ → List ℕ → WriteOut → List ℕ → List ℕ → Type 0
LeastFormExport sheet case r output output' = WritingExport (least_form_text sheet case (length output)) r output output'

-- a call that searches with this result, or is refused
pub record SearchingExport (result : Answer (Stoppable Search)) (r : FindOut) (work work' output output' : List ℕ) : Type 0 where
  pub answer : r ≡ find_out (allowed_answer result)
  pub worked : work' ≡ allowed_work result work
  pub left : output' ≡ allowed_output result output

-- Find
abbrev pub FindExport : List ℕ → ℕ → ℕ → ℕ → ℕ → ℕ → FindOut → List ℕ → List ℕ → List ℕ → List ℕ → Type 0
FindExport sheet low high named symmetry allowance r work work' output output' =
    SearchingExport (find_within (is_on named) (is_on symmetry) sheet low high allowance (length work) (length output)) r work work' output output'

-- Find plain, which is lent no work area
pub record PlainExport (sheet : List ℕ) (low high : ℕ) (r : FindOut) (output output' : List ℕ) : Type 0 where
  pub answer : r ≡ plain_out (find_answer (plain_result sheet low high (length output)))
  pub left : output' ≡ find_output (plain_result sheet low high (length output)) output

-- From TPTP
abbrev pub TptpExport : List ℕ → WriteOut → List ℕ → List ℕ → Type 0
TptpExport text r output output' = WritingExport (tptp_text text (length output)) r output output'

-- From solver
pub record FromSolverExport (sheet : List ℕ) (size : ℕ) (text : List ℕ) (r : WriteOut) (output output' : List ℕ) : Type 0 where
  pub answer : r ≡ solver_out (solver_answer (solver_text sheet size text (length output)))
  pub left : output' ≡ solver_output (solver_text sheet size text (length output)) output

-- Merge
pub record MergeExport (first second : List ℕ) (r : MergeOut) (output output' : List ℕ) : Type 0 where
  pub answer : r ≡ merge_out (length_answer (merged_text first second (length output))) (which_sheet first second)
  pub left : output' ≡ output_after (merged_text first second (length output)) output
