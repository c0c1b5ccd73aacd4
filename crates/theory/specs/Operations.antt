-- The operations: what each call answers, and what every lent byte and number is afterwards.
use Rattle.std.specs.Prelude.{ℕ, suc, Bool, ◌&&◌, List, [], ◌++◌, leb, length, get_or, drop, replicate}
use Rattle.std.proofs.Math.Option.{Option, none, some}
use Rattle.theory.specs.Syntax.{functions, predicates, Clause, variables}
use Rattle.theory.specs.Truth.{Failure}
use Rattle.theory.specs.Cells.{judged, is_model}
use Rattle.theory.specs.Propositional.{prop_count}
use Rattle.theory.specs.PropClauses.{prop_clauses, instance_count, work_needed}
use Rattle.theory.specs.Dimacs.{dimacs}
use Rattle.theory.specs.Valuation.{is_valuation, is_functional, read_back, valuation_of}
use Rattle.theory.specs.Refusals.{Answer, answer, refused, unplaced, needing, ◌>>=◌, check}
use Rattle.theory.specs.Problem.{Problem}
use Rattle.theory.specs.CaseText.{Case, case_text, case_length}
use Rattle.theory.specs.Columns.{placed_problem, placed_case}
use Rattle.theory.specs.Least.{smallest_model, settled}

-- the largest domain size
abbrev pub max_size : ℕ
max_size = 8

-- the most instances that are written or searched
abbrev pub max_instances : ℕ
max_instances = 1000000

-- a domain size of 1 to 8
abbrev pub is_size : ℕ → Bool
is_size s = leb 1 s && leb s max_size

-- Read: the sheet's counts.
pub record Counts : Type 0 where
  pub functions : ℕ
  pub predicates : ℕ
  pub clauses : ℕ

-- the counts of a problem
abbrev pub counts : Problem → Counts
counts p =
    record {
      functions = length (functions p.symbols);
      predicates = length (predicates p.symbols);
      clauses = length p.clauses;
    }

-- what Read answers
unfoldable pub read_answer : List ℕ → Answer Counts
read_answer sheet = do
  p ← placed_problem sheet
  answer (counts p)

-- what Judge answers: yes exactly if the case is a model
unfoldable pub judge_answer : List ℕ → List ℕ → Answer Bool
judge_answer sheet case = do
  p ← placed_problem sheet
  k ← placed_case p.symbols case
  answer (is_model k.size p.symbols p.clauses k.values)

-- Explain: why a case is no model. Clause `clause` of the sheet, counted from 1, fails where its letters stand for these elements, in order.
-- The letters are the clause's own as written, in order of first appearance, A being 0.
pub record Reason : Type 0 where
  pub clause : ℕ
  pub letters : List ℕ
  pub values : List ℕ

-- the reason that a failure of these clauses is
abbrev pub reason_of : List Clause → Option Failure → Option Reason
reason_of cs none = none
reason_of cs (some f) = some (record { clause = suc f.clause; letters = variables (get_or cs f.clause []); values = f.choice })

-- what Explain answers: the first failure, none exactly if the case is a model
unfoldable pub explain_answer : List ℕ → List ℕ → Answer (Option Reason)
explain_answer sheet case = do
  p ← placed_problem sheet
  k ← placed_case p.symbols case
  answer (reason_of p.clauses (judged k.size p.symbols p.clauses k.values))

-- An operation that writes bytes answers the length of its text,
abbrev pub length_answer : Answer (List ℕ) → Answer ℕ
length_answer (answer text) = answer (length text)
length_answer (refused r) = refused r

-- the text at the front of the output, the bytes after it unchanged
abbrev pub over : List ℕ → List ℕ → List ℕ
over text out = text ++ drop (length text) out

-- and leaves the text in the output; a refused call changes no byte.
abbrev pub output_after : Answer (List ℕ) → List ℕ → List ℕ
output_after (answer text) out = over text out
output_after (refused r) out = out

-- Write's checks of the content of sheet and size: the sheet's numbers, 8, 9
unfoldable pub content_of : List ℕ → ℕ → Answer Problem
content_of sheet size = do
  p ← placed_problem sheet
  _ ← check (is_size size) (unplaced 8)
  _ ← check (leb (instance_count size p.symbols p.clauses) max_instances) (unplaced 9)
  answer p

-- the text that Write leaves, given an output of so many bytes
unfoldable pub written_text : List ℕ → ℕ → ℕ → Answer (List ℕ)
written_text sheet size room = do
  p ← content_of sheet size
  let text : List ℕ = dimacs (prop_count size p.symbols) (prop_clauses size p.symbols p.clauses)
  _ ← check (leb (length text) room) (needing 11 (length text))
  answer text

-- the text that Read back leaves, given an output of so many bytes
unfoldable pub read_back_text : List ℕ → ℕ → List ℕ → ℕ → Answer (List ℕ)
read_back_text sheet size setting room = do
  p ← placed_problem sheet
  _ ← check (is_size size) (unplaced 8)
  _ ← check (is_valuation size p.symbols setting) (unplaced 13)
  _ ← check (is_functional size p.symbols setting) (unplaced 14)
  _ ← check (leb (case_length size p.symbols) room) (needing 11 (case_length size p.symbols))
  answer (case_text size p.symbols (read_back size p.symbols setting))

-- the text that Setting leaves, given an output of so many bytes: the V bytes of the case's setting, at the case's own size
unfoldable pub setting_text : List ℕ → List ℕ → ℕ → Answer (List ℕ)
setting_text sheet case room = do
  p ← placed_problem sheet
  k ← placed_case p.symbols case
  _ ← check (leb (prop_count k.size p.symbols) room) (needing 11 (prop_count k.size p.symbols))
  answer (valuation_of k.size p.symbols k.values)

-- Find's result: the size and the text of the case found, or none with the mark settled
pub data Search : Type 0 where
  found : ℕ → List ℕ → Search
  nothing : Bool → Search

-- the result for the smallest size's least model
abbrev pub search_of : Problem → ℕ → ℕ → Option Case → Search
search_of p low high (some k) = found k.size (case_text k.size p.symbols k.values)
search_of p low high none = nothing (settled p low high)

-- what Find finds, given so many numbers of work and an output of so many bytes
unfoldable pub find_result : List ℕ → ℕ → ℕ → ℕ → ℕ → Answer Search
find_result sheet low high work room = do
  p ← placed_problem sheet
  _ ← check (leb 1 low && leb high max_size && leb low high) (unplaced 8)
  _ ← check (leb (instance_count high p.symbols p.clauses) max_instances) (unplaced 9)
  _ ← check (leb (work_needed high p.symbols p.clauses) work) (needing 10 (work_needed high p.symbols p.clauses))
  _ ← check (leb (case_length high p.symbols) room) (needing 11 (case_length high p.symbols))
  answer (search_of p low high (smallest_model p low high))

-- Find's answer: the size and the length of the case found, or none with the mark settled
pub data Found : Type 0 where
  found_case : ℕ → ℕ → Found
  no_case : Bool → Found

-- what Find answers
abbrev pub find_answer : Answer Search → Answer Found
find_answer (answer (found s text)) = answer (found_case s (length text))
find_answer (answer (nothing b)) = answer (no_case b)
find_answer (refused r) = refused r

-- the output after Find: a found case at its front; else unchanged
abbrev pub find_output : Answer Search → List ℕ → List ℕ
find_output (answer (found s text)) out = over text out
find_output (answer (nothing b)) out = out
find_output (refused r) out = out

-- the work after Find: zeros on both results, unchanged on a refusal
abbrev pub find_work : Answer Search → List ℕ → List ℕ
find_work (answer f) work = replicate (length work) 0
find_work (refused r) work = work
