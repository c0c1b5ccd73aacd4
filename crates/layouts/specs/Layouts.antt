-- The answers as the structs of `include/nesskettle.h`.
use Rattle.std.specs.Prelude.{ℕ, Bool, true, false, cond}
use Rattle.std.proofs.Math.Option.{Option, none, some}
use Rattle.theory.specs.Refusals.{Answer, answer, refused}
use Rattle.theory.specs.Operations.{Counts, Reason, Found, found_case, no_case}
use Rattle.allowance.specs.AllowedFind.{Stoppable, finished, stopped}
use Rattle.solver.specs.SolverText.{Outcome, model_case, claimed_none}
use Rattle.layouts.specs.declared.ReadOut.{ReadOut}
use Rattle.layouts.specs.declared.JudgeOut.{JudgeOut}
use Rattle.answers.specs.declared.Reason as code
use Rattle.answers.specs.Answers.{reason_beside}
use Rattle.layouts.specs.declared.ExplainOut.{ExplainOut}
use Rattle.layouts.specs.declared.WriteOut.{WriteOut}
use Rattle.layouts.specs.declared.FindOut.{FindOut}
use Rattle.layouts.specs.declared.MergeOut.{MergeOut}

-- Read: outcome 1 and the counts
abbrev pub read_out : Answer Counts → ReadOut
read_out (answer c) = record { outcome = 1; reason = 0; line = 0; column = 0; funs = c.functions; preds = c.predicates; clauses = c.clauses }
read_out (refused r) = record { outcome = 0; reason = r.number; line = r.place.line; column = r.place.column; funs = 0; preds = 0; clauses = 0 }

-- Judge: outcome 1 for yes, 2 for no
abbrev pub judge_out : Answer Bool → JudgeOut
judge_out (answer true) = record { outcome = 1; reason = 0; line = 0; column = 0 }
judge_out (answer false) = record { outcome = 2; reason = 0; line = 0; column = 0 }
judge_out (refused r) = record { outcome = 0; reason = r.number; line = r.place.line; column = r.place.column }

-- Judge's answer to what Explain answers: yes where there is no reason
abbrev pub verdict_of : Answer (Option Reason) → Answer Bool
verdict_of (answer none) = answer true
verdict_of (answer (some q)) = answer false
verdict_of (refused r) = refused r

-- Judge's struct, and behind it these bytes of a reason
abbrev pub laid : JudgeOut → code.Reason → ExplainOut
laid j q = record { outcome = j.outcome; reason = j.reason; line = j.line; column = j.column; clause = q.clause; count = q.count; letters = q.letters; values = q.values }

-- Explain: Judge's struct, and behind it the reason byte by byte, all zeros where there is none
abbrev pub explain_out : Answer (Option Reason) → ExplainOut
explain_out a = laid (judge_out (verdict_of a)) (reason_beside a)

-- Write, Read back, Setting, Renumber, Least form and From TPTP: outcome 1 and the length; refused, the needed length
abbrev pub write_out : Answer ℕ → WriteOut
write_out (answer n) = record { outcome = 1; reason = 0; line = 0; column = 0; length = n }
write_out (refused r) = record { outcome = 0; reason = r.number; line = r.place.line; column = r.place.column; length = r.needed }

-- Write's struct, and behind it the number of a sheet
abbrev pub behind : WriteOut → ℕ → MergeOut
behind w sheet = record { outcome = w.outcome; reason = w.reason; line = w.line; column = w.column; length = w.length; sheet = sheet }

-- Merge: Write's struct, and behind it which sheet a refusal points into, 1 or 2, else 0
abbrev pub merge_out : Answer ℕ → ℕ → MergeOut
merge_out a sheet = behind (write_out a) sheet

-- From solver: outcome 1 and the length, 2 for claimed none; refused, the needed length
abbrev pub solver_out : Answer (Outcome ℕ) → WriteOut
solver_out (answer (model_case n)) = record { outcome = 1; reason = 0; line = 0; column = 0; length = n }
solver_out (answer claimed_none) = record { outcome = 2; reason = 0; line = 0; column = 0; length = 0 }
solver_out (refused r) = record { outcome = 0; reason = r.number; line = r.place.line; column = r.place.column; length = r.needed }

-- a result of Find: its outcome, size, length, choices and mark
abbrev pub result_out : ℕ → ℕ → ℕ → ℕ → ℕ → FindOut
result_out o s n k b = record { outcome = o; reason = 0; line = 0; column = 0; size = s; length = n; choices = k; settled = b }

-- Find: outcome 1 with size and length, 2 with the mark settled, 3 stopped with the size, each with the choices made; refused, the needed length
abbrev pub find_out : Answer (Stoppable Found) → FindOut
find_out (answer (finished (found_case s n) k)) = result_out 1 s n k 0
find_out (answer (finished (no_case b) k)) = result_out 2 0 0 k (cond b 1 0)
find_out (answer (stopped s k)) = result_out 3 s 0 k 0
find_out (refused r) = record { outcome = 0; reason = r.number; line = r.place.line; column = r.place.column; size = 0; length = r.needed; choices = 0; settled = 0 }

-- Find plain: the same, without choices
abbrev pub plain_out : Answer Found → FindOut
plain_out (answer f) = find_out (answer (finished f 0))
plain_out (refused r) = find_out (refused r)
