-- What Setting leaves of the cells of a case, once sheet and case are accepted.
use Rattle.std.specs.Prelude.{ℕ, List, leb, length}
use Rattle.theory.specs.Syntax.{Signature}
use Rattle.theory.specs.Propositional.{prop_count}
use Rattle.theory.specs.Refusals.{Answer, answer, needing, ◌>>=◌, check}
use Rattle.theory.specs.Valuation.{valuation_of}
use Rattle.answers.specs.Answers.{WriteAnswer}
use Rattle.answers.specs.Calls.{WritingCall}

-- 11, or the valuation of the first cells, given an output of so many bytes
unfoldable pub cells_text : ℕ → Signature → List ℕ → ℕ → Answer (List ℕ)
cells_text s g cells room = do
  _ ← check (leb (prop_count s g) room) (needing 11 (prop_count s g))
  answer (valuation_of s g cells)

-- what is answered to them and left in the output
abbrev pub CellsCall : Signature → ℕ → List ℕ → WriteAnswer → List ℕ → List ℕ → Type 0
CellsCall g s cells r output output' = WritingCall (cells_text s g cells (length output)) r output output'
