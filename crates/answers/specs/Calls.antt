-- One call of each operation but Find, whose record is `finding/specs/Calls`: what it was handed, the answer r, and each lent buffer before and after. These records are the promises of the calls, and the theorems
-- on the calls speak of them.
use Rattle.std.specs.Prelude.{ℕ, ◌≡◌, Bool, List, length}
use Rattle.std.proofs.Math.Option.{Option}
use Rattle.theory.specs.Refusals.{Answer}
use Rattle.theory.specs.Operations.{read_answer, judge_answer, Reason, explain_answer, length_answer, output_after, setting_text, Search, find_answer, find_output}
use Rattle.theory.specs.PlainSearch.{plain_result}
use Rattle.naming.specs.NamedOperations.{read_back_text_in}
use Rattle.symmetry.specs.SymmetricOperations.{written_text_with}
use Rattle.answers.specs.Answers.{ReadAnswer, read_in, JudgeAnswer, judge_in, ExplainAnswer, explain_in, reason_beside, reason_told, WriteAnswer, length_in, FindAnswer, find_in}

-- Read
pub record ReadCall (sheet : List ℕ) (r : ReadAnswer) : Type 0 where
  pub answer : read_in r ≡ read_answer sheet

-- Judge
pub record JudgeCall (sheet case : List ℕ) (r : JudgeAnswer) : Type 0 where
  pub answer : judge_in r ≡ judge_answer sheet case

-- a call that gives this reason or none, or is refused
pub record ReasoningCall (a : Answer (Option Reason)) (r : ExplainAnswer) : Type 0 where
  pub answer : explain_in r ≡ a
  pub beside : reason_told r ≡ reason_beside a

-- Explain
abbrev pub ExplainCall : List ℕ → List ℕ → ExplainAnswer → Type 0
ExplainCall sheet case r = ReasoningCall (explain_answer sheet case) r

-- a call that writes this text, or is refused
pub record WritingCall (text : Answer (List ℕ)) (r : WriteAnswer) (output output' : List ℕ) : Type 0 where
  pub answer : length_in r ≡ length_answer text
  pub left : output' ≡ output_after text output

-- Write; plain, or with named terms; with the constant clauses where `symmetry` says so
abbrev pub WriteCall : List ℕ → ℕ → Bool → Bool → WriteAnswer → List ℕ → List ℕ → Type 0
WriteCall sheet size named symmetry r output output' = WritingCall (written_text_with named symmetry sheet size (length output)) r output output'

-- Read back; plain, or with named terms
abbrev pub ReadBackCall : List ℕ → ℕ → Bool → List ℕ → WriteAnswer → List ℕ → List ℕ → Type 0
ReadBackCall sheet size named setting r output output' = WritingCall (read_back_text_in named sheet size setting (length output)) r output output'

-- Setting
abbrev pub SettingCall : List ℕ → List ℕ → WriteAnswer → List ℕ → List ℕ → Type 0
SettingCall sheet case r output output' = WritingCall (setting_text sheet case (length output)) r output output'

-- a call that searches with this result and is lent no work area, or is refused
pub record PlainSearchingCall (result : Answer Search) (r : FindAnswer) (output output' : List ℕ) : Type 0 where
  pub answer : find_in r ≡ find_answer result
  pub left : output' ≡ find_output result output

-- Find plain
abbrev pub PlainCall : List ℕ → ℕ → ℕ → FindAnswer → List ℕ → List ℕ → Type 0
PlainCall sheet low high r output output' = PlainSearchingCall (plain_result sheet low high (length output)) r output output'
