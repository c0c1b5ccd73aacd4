-- What Read back says of a setting, once sheet and size are accepted.
use Rattle.std.specs.Prelude.{ℕ, ◌≤◌, List, leb, length}
use Rattle.theory.specs.Syntax.{Signature}
use Rattle.theory.specs.Refusals.{Answer, answer, unplaced, needing, ◌>>=◌, check}
use Rattle.theory.specs.Problem.{max_bytes}
use Rattle.theory.specs.CaseText.{case_length}
use Rattle.theory.specs.Operations.{max_size}
use Rattle.theory.specs.Valuation.{is_valuation, is_functional, read_back}
use Rattle.naming.specs.NamedProblem.{shown_symbols, shown_text}
use Rattle.answers.specs.Answers.{WriteAnswer}
use Rattle.answers.specs.Calls.{WritingCall}
use Rattle.syntax.specs.declared.signature.Signature as code
use Rattle.syntax.specs.Signatures.{signature_in}
use Rattle.clauses.specs.Names.{Readable}
use Rattle.problem.specs.Modes.{Shows}

-- 13, 14, 11, or the case that the setting says, given an output of so many bytes
unfoldable pub text_said : ℕ → Signature → List ℕ → ℕ → Answer (List ℕ)
text_said size g setting room = do
  _ ← check (is_valuation size g setting) (unplaced 13)
  _ ← check (is_functional size g setting) (unplaced 14)
  _ ← check (leb (case_length size (shown_symbols g)) room) (needing 11 (case_length size (shown_symbols g)))
  answer (shown_text size g (read_back size g setting))

-- the symbols that a sheet was read to, at a size of 1 to 8: the declared ones stand before the helpers
pub record SizedSymbols (sheet : List ℕ) (y : code.Signature) (size : ℕ) : Type 0 where
  pub readable : Readable sheet y
  pub bytes : length sheet ≤ max_bytes
  pub shows : Shows sheet y
  pub positive : 1 ≤ size
  pub within : size ≤ max_size

-- what is answered to it and left in the output, at the symbols that the sheet was read to
abbrev pub WriteSettingCall : List ℕ → code.Signature → ℕ → List ℕ → WriteAnswer → List ℕ → List ℕ → Type 0
WriteSettingCall sheet y size setting r output output' = WritingCall (text_said size (signature_in sheet y) setting (length output)) r output output'
