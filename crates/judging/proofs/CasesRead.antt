-- From what was read of a sheet and a case to what Judge and Explain answer.
use Prim.Native.Nat.{ℕ}
use mathlib.Core.Path.{◌≡◌}
use mathlib.Core.Bool.{Bool, false}
use mathlib.Core.Option.{Option}
use mathlib.Core.List.{List}
use native.Mathlib.Omega.{arith}
use lib.ListN.{length}
use Rattle.theory.specs.Syntax.{Signature}
use Rattle.theory.specs.Cells.{is_model, judged}
use Rattle.theory.specs.Refusals.{Refusal, Answer, answer, refused}
use Rattle.theory.specs.Problem.{Problem}
use Rattle.theory.specs.CaseText.{Case, read_case}
use Rattle.theory.specs.Columns.{placed_problem, placed_case}
use Rattle.theory.specs.Operations.{Reason, reason_of, judge_answer, explain_answer}
use Rattle.theory.proofs.CaseText.{OnlyText, read-exactly}
use Rattle.syntax.specs.declared.limits.Problem as code
use Rattle.syntax.specs.Signatures.{max_cells, signature_in}
use Rattle.interpretation.proofs.Tabling.{cells-limited}
use Rattle.problem.specs.Problems.{problem_in, Accepted}
use Rattle.problem.specs.Modes.{read_in}
use Rattle.columns.proofs.CasesOpened.{sheet-stops, case-stops, goes_on}
use Rattle.judging.specs.Cases.{CellsLent, cells_of, is_model_in}
use Rattle.judging.specs.Reasons.{reason_for}

-- whether a case that was read is a model, and why it is none
abbrev judgement : Problem → Case → Answer Bool
judgement p k = answer (is_model k.size p.symbols p.clauses k.values)

abbrev explanation : Problem → Case → Answer (Option Reason)
explanation p k = answer (reason_of p.clauses (judged k.size p.symbols p.clauses k.values))

module _ (sheet case : List ℕ) where
  module _ (q : Refusal) (e : placed_problem sheet ≡ refused q) where
    pub judge-sheet-refused : judge_answer sheet case ≡ refused q
    unfolding judge_answer
    judge-sheet-refused = sheet-stops judgement sheet case q e

    pub explain-sheet-refused : explain_answer sheet case ≡ refused q
    unfolding explain_answer
    explain-sheet-refused = sheet-stops explanation sheet case q e

  -- a sheet that was accepted
  module _ (p : code.Problem) (read : read_in false sheet ≡ answer (problem_in sheet p)) where
    abbrev g : Signature
    g = signature_in sheet p.signature

    module _ (q : Refusal) (e : placed_case g case ≡ refused q) where
      pub judge-case-refused : judge_answer sheet case ≡ refused q
      unfolding judge_answer
      judge-case-refused = case-stops judgement sheet case p read q e

      pub explain-case-refused : explain_answer sheet case ≡ refused q
      unfolding explain_answer
      explain-case-refused = case-stops explanation sheet case p read q e

    -- the case is one of the problem
    module _ (s : ℕ) (cells : List ℕ) (e : read_case g case ≡ answer (record { size = s; values = cells_of sheet p cells s })) where
      abbrev case_read : Case
      case_read = record { size = s; values = cells_of sheet p cells s }

      pub case-judged : judge_answer sheet case ≡ answer (is_model_in sheet p cells s)
      unfolding judge_answer
      case-judged = goes_on judgement sheet case p read case_read e

      pub case-explained : explain_answer sheet case ≡ answer (reason_for sheet p cells s)
      unfolding explain_answer
      case-explained = goes_on explanation sheet case p read case_read e

      pub cells-lent : Accepted sheet p → length cells ≡ max_cells → CellsLent sheet p cells s
      cells-lent h n =
          let exact : OnlyText g case case_read = read-exactly g case case_read e in
          record {
            positive = exact.positive;
            size = exact.within;
            accepted = h;
            held = omega (arith, n, cells-limited sheet p.signature h.readable.limited s exact.within);
            values = exact.interpretation;
          }
