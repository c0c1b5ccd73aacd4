-- Document 01's number and values for each case of the answers.
use Rattle.std.specs.Prelude.{ℕ, suc, ◌+◌, ◌-◌, Bool, List, map, length, take, replicate, Some, None, Ok, Err}
use Rattle.std.specs.Prelude as rust
use Rattle.std.proofs.Math.Option.{Option, none, some}
use Rattle.theory.specs.Refusals.{Answer, answer, refused}
use Rattle.theory.specs.Refusals as theory
use Rattle.theory.specs.Operations.{Counts, over, Found, found_case, no_case}
use Rattle.theory.specs.Operations as operations
use Rattle.syntax.specs.Faults.{number_of}
use Rattle.answers.specs.declared.Refusal.{Refusal}
use Rattle.answers.specs.declared.SheetCounts.{SheetCounts}
use Rattle.answers.specs.declared.Reason.{Reason}
use Rattle.answers.specs.declared.PlainResult.{PlainResult}
use Rattle.answers.specs.declared.PlainResult.TheVariants as find

-- what the code's type of each answer is
abbrev pub ReadAnswer : Type 0
ReadAnswer = rust.Result SheetCounts Refusal

abbrev pub JudgeAnswer : Type 0
JudgeAnswer = rust.Result Bool Refusal

abbrev pub ExplainAnswer : Type 0
ExplainAnswer = rust.Result (rust.Option Reason) Refusal

abbrev pub WriteAnswer : Type 0
WriteAnswer = rust.Result ℕ Refusal

abbrev pub FindAnswer : Type 0
FindAnswer = rust.Result PlainResult Refusal

-- a refusal's number, place and needed length
abbrev pub refusal_in : Refusal → theory.Refusal
refusal_in r = record { number = number_of r.fault; place = record { line = r.line; column = r.column }; needed = r.needed }

-- Read's counts
abbrev pub read_in : ReadAnswer → Answer Counts
read_in (Ok c) = answer (record { functions = c.functions; predicates = c.predicates; clauses = c.clauses })
read_in (Err r) = refused (refusal_in r)

-- Judge's yes or no
abbrev pub judge_in : JudgeAnswer → Answer Bool
judge_in (Ok b) = answer b
judge_in (Err r) = refused (refusal_in r)

-- the reason that the bytes say: letter 0 is 'A', element 0 is 1
abbrev pub reason_in : Reason → operations.Reason
reason_in r =
    record {
      clause = r.clause;
      letters = map (λ b. b - 65) (take r.count r.letters);
      values = map (λ b. b - 1) (take r.count r.values);
    }

-- Explain's reason, or none with yes
abbrev pub explain_in : ExplainAnswer → Answer (Option operations.Reason)
explain_in (Ok (Some q)) = answer (some (reason_in q))
explain_in (Ok None) = answer none
explain_in (Err r) = refused (refusal_in r)

-- eight bytes: these, and 0 behind them
abbrev pub eight : List ℕ → List ℕ
eight bs = over bs (replicate 8 0)

-- a reason byte by byte
abbrev pub reason_bytes : operations.Reason → Reason
reason_bytes q =
    record {
      clause = q.clause;
      count = length q.letters;
      letters = eight (map (λ x. 65 + x) q.letters);
      values = eight (map suc q.values);
    }

-- no reason
abbrev pub no_reason : Reason
no_reason = record { clause = 0; count = 0; letters = replicate 8 0; values = replicate 8 0 }

-- the reason of an answer, byte by byte; without one all zeros
abbrev pub reason_beside : Answer (Option operations.Reason) → Reason
reason_beside (answer none) = no_reason
reason_beside (answer (some q)) = reason_bytes q
reason_beside (refused r) = no_reason

-- the same of what Explain answers
abbrev pub reason_told : ExplainAnswer → Reason
reason_told (Ok (Some q)) = q
reason_told (Ok None) = no_reason
reason_told (Err r) = no_reason

-- the length that the calls answer which write a text
abbrev pub length_in : WriteAnswer → Answer ℕ
length_in (Ok n) = answer n
length_in (Err r) = refused (refusal_in r)

-- Find plain's size and length, or none with the mark settled; so Find's, its choices left out
abbrev pub find_in : FindAnswer → Answer Found
find_in (Ok (find.Found s n)) = answer (found_case s n)
find_in (Ok (find.Nothing b)) = answer (no_case b)
find_in (Err r) = refused (refusal_in r)
