-- What Renumber and Least form leave of the cells of a case, once sheet and case are accepted.
use Rattle.std.specs.Prelude.{ℕ, ◌≤◌, ◌≡◌, true, List, leb, length, take}
use Rattle.theory.specs.Syntax.{Signature}
use Rattle.theory.specs.Cells.{cell_count, is_interpretation}
use Rattle.theory.specs.Refusals.{Answer, answer, unplaced, needing, ◌>>=◌, check}
use Rattle.theory.specs.Problem.{max_bytes}
use Rattle.theory.specs.CaseText.{case_text, case_length}
use Rattle.theory.specs.Operations.{max_size}
use Rattle.renumbering.specs.Renumbering.{renumbered}
use Rattle.renumbering.specs.LeastForm.{least_form}
use Rattle.renumbered_cases.specs.RenumberedCases.{entries_of, is_listed}
use Rattle.syntax.specs.declared.signature.Signature as declared
use Rattle.syntax.specs.Signatures.{max_cells, signature_in}
use Rattle.clauses.specs.Names.{Readable}

-- the values of a case in the first cells
abbrev pub first_cells : ℕ → Signature → List ℕ → List ℕ
first_cells s g cells = take (cell_count s g) cells

-- 25, 11, or the case renumbered by the list, given an output of so many bytes
unfoldable pub renumbered_cells : ℕ → Signature → List ℕ → List ℕ → ℕ → Answer (List ℕ)
renumbered_cells s g cells list room = do
  _ ← check (is_listed s list) (unplaced 25)
  _ ← check (leb (case_length s g) room) (needing 11 (case_length s g))
  answer (case_text s g (renumbered s g (entries_of list) (first_cells s g cells)))

-- 11, or the least form of the case, given an output of so many bytes
unfoldable pub least_cells : ℕ → Signature → List ℕ → ℕ → Answer (List ℕ)
least_cells s g cells room = do
  _ ← check (leb (case_length s g) room) (needing 11 (case_length s g))
  answer (case_text s g (least_form s g (first_cells s g cells)))

-- the first cells are a case of the sheet's symbols
pub record CaseHeld (sheet : List ℕ) (y : declared.Signature) (s : ℕ) (cells : List ℕ) : Type 0 where
  pub readable : Readable sheet y
  pub short : length sheet ≤ max_bytes
  pub positive : 1 ≤ s
  pub small : s ≤ max_size
  pub room : max_cells ≤ length cells
  pub values : is_interpretation s (signature_in sheet y) (first_cells s (signature_in sheet y) cells) ≡ true
