-- Write, Read back and Find in the mode, and each call with a switch between the modes. Counts and settings are of the mode's problem, cases show the declared symbols.
use Rattle.std.specs.Prelude.{ℕ, Bool, true, false, ◌&&◌, List, leb, length}
use Rattle.std.proofs.Math.Option.{Option, none, some}
use Rattle.theory.specs.Propositional.{prop_count}
use Rattle.theory.specs.PropClauses.{prop_clauses, instance_count, work_needed}
use Rattle.theory.specs.Dimacs.{dimacs}
use Rattle.theory.specs.Valuation.{is_valuation, is_functional, read_back}
use Rattle.theory.specs.Refusals.{Answer, answer, unplaced, needing, ◌>>=◌, check}
use Rattle.theory.specs.Problem.{Problem, read_problem}
use Rattle.theory.specs.CaseText.{Case, case_length}
use Rattle.theory.specs.Columns.{placed_problem}
use Rattle.theory.specs.Least.{smallest_model, settled}
use Rattle.theory.specs.Operations.{max_size, max_instances, is_size, content_of, written_text, read_back_text, Search, found, nothing, find_result}
use Rattle.naming.specs.NamedProblem.{in_mode, shown_symbols, shown_text}
use Rattle.naming.specs.NamedReading.{read_named, placed_named}

-- Write's checks of the content of sheet and size: the sheet's numbers, 21, 8, 9
unfoldable pub named_content_of : List ℕ → ℕ → Answer Problem
named_content_of sheet size = do
  p ← placed_named sheet
  _ ← check (is_size size) (unplaced 8)
  _ ← check (leb (instance_count size (in_mode p).symbols (in_mode p).clauses) max_instances) (unplaced 9)
  answer p

-- the text that Write leaves in the mode, given an output of so many bytes
unfoldable pub named_written_text : List ℕ → ℕ → ℕ → Answer (List ℕ)
named_written_text sheet size room = do
  p ← named_content_of sheet size
  let q : Problem = in_mode p
  let text : List ℕ = dimacs (prop_count size q.symbols) (prop_clauses size q.symbols q.clauses)
  _ ← check (leb (length text) room) (needing 11 (length text))
  answer text

-- the text that Read back leaves in the mode; the setting has the helpers' cells too
unfoldable pub named_read_back_text : List ℕ → ℕ → List ℕ → ℕ → Answer (List ℕ)
named_read_back_text sheet size setting room = do
  p ← placed_named sheet
  let q : Problem = in_mode p
  _ ← check (is_size size) (unplaced 8)
  _ ← check (is_valuation size q.symbols setting) (unplaced 13)
  _ ← check (is_functional size q.symbols setting) (unplaced 14)
  _ ← check (leb (case_length size (shown_symbols q.symbols)) room) (needing 11 (case_length size (shown_symbols q.symbols)))
  answer (shown_text size q.symbols (read_back size q.symbols setting))

-- the result for the smallest size's least model of the mode's problem
abbrev pub named_search_of : Problem → ℕ → ℕ → Option Case → Search
named_search_of q low high (some k) = found k.size (shown_text k.size q.symbols k.values)
named_search_of q low high none = nothing (settled q low high)

-- what Find finds in the mode, given so many numbers of work and an output of so many bytes
unfoldable pub named_find_result : List ℕ → ℕ → ℕ → ℕ → ℕ → Answer Search
named_find_result sheet low high work room = do
  p ← placed_named sheet
  let q : Problem = in_mode p
  _ ← check (leb 1 low && leb high max_size && leb low high) (unplaced 8)
  _ ← check (leb (instance_count high q.symbols q.clauses) max_instances) (unplaced 9)
  _ ← check (leb (work_needed high q.symbols q.clauses) work) (needing 10 (work_needed high q.symbols q.clauses))
  _ ← check (leb (case_length high (shown_symbols q.symbols)) room) (needing 11 (case_length high (shown_symbols q.symbols)))
  answer (named_search_of q low high (smallest_model q low high))

-- The calls with a switch: plain where it is false, else the mode. The sheet's problem as handed in,
abbrev pub read_problem_in : Bool → List ℕ → Answer Problem
read_problem_in false sheet = read_problem sheet
read_problem_in true sheet = read_named sheet

-- the same, or the refusal with its column,
abbrev pub placed_in : Bool → List ℕ → Answer Problem
placed_in false sheet = placed_problem sheet
placed_in true sheet = placed_named sheet

-- the problem whose clauses are written and searched,
abbrev pub mode_problem : Bool → Problem → Problem
mode_problem false p = p
mode_problem true p = in_mode p

-- Write's checks of the content,
abbrev pub content_of_in : Bool → List ℕ → ℕ → Answer Problem
content_of_in false sheet size = content_of sheet size
content_of_in true sheet size = named_content_of sheet size

-- Write,
abbrev pub written_text_in : Bool → List ℕ → ℕ → ℕ → Answer (List ℕ)
written_text_in false sheet size room = written_text sheet size room
written_text_in true sheet size room = named_written_text sheet size room

-- Read back,
abbrev pub read_back_text_in : Bool → List ℕ → ℕ → List ℕ → ℕ → Answer (List ℕ)
read_back_text_in false sheet size setting room = read_back_text sheet size setting room
read_back_text_in true sheet size setting room = named_read_back_text sheet size setting room

-- and Find
abbrev pub find_result_in : Bool → List ℕ → ℕ → ℕ → ℕ → ℕ → Answer Search
find_result_in false sheet low high work room = find_result sheet low high work room
find_result_in true sheet low high work room = named_find_result sheet low high work room
