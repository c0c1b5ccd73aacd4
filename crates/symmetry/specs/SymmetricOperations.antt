-- Write and Find with the constant clauses (document 02, slip 10), and each call with both switches: named, and symmetry, which says that the constant clauses are used.
-- They are those of the sheet's own constants in both modes, and count in I, L and W; V, the settings and Read back do not change.
use Rattle.std.specs.Prelude.{ℕ, Bool, true, false, ◌&&◌, List, leb, length}
use Rattle.std.proofs.Math.Option.{Option}
use Rattle.theory.specs.Syntax.{Signature}
use Rattle.theory.specs.Propositional.{prop_count}
use Rattle.theory.specs.Dimacs.{dimacs}
use Rattle.theory.specs.Refusals.{Answer, answer, unplaced, needing, ◌>>=◌, check}
use Rattle.theory.specs.Problem.{Problem}
use Rattle.theory.specs.CaseText.{Case, case_length}
use Rattle.theory.specs.Operations.{max_size, max_instances, is_size, Search, search_of}
use Rattle.naming.specs.NamedProblem.{shown_symbols}
use Rattle.naming.specs.NamedOperations.{placed_in, mode_problem, content_of_in, named_search_of, written_text_in, find_result_in}
use Rattle.symmetry.specs.ConstantClauses.{prop_clauses_with, instance_count_with, work_needed_with}
use Rattle.symmetry.specs.Obeying.{smallest_with}

-- the symbols that a case shows
abbrev pub shown_in : Bool → Signature → Signature
shown_in false g = g
shown_in true g = shown_symbols g

-- the result for what is searched for
abbrev pub search_in : Bool → Problem → ℕ → ℕ → Option Case → Search
search_in false q low high o = search_of q low high o
search_in true q low high o = named_search_of q low high o

-- Write's checks of the content where the constant clauses are asked for
unfoldable pub symmetric_content_of : Bool → List ℕ → ℕ → Answer Problem
symmetric_content_of named sheet size = do
  p ← placed_in named sheet
  let q : Problem = mode_problem named p
  _ ← check (is_size size) (unplaced 8)
  _ ← check (leb (instance_count_with true size q.symbols q.clauses) max_instances) (unplaced 9)
  answer p

-- the text that Write leaves then
unfoldable pub symmetric_written_text : Bool → List ℕ → ℕ → ℕ → Answer (List ℕ)
symmetric_written_text named sheet size room = do
  p ← symmetric_content_of named sheet size
  let q : Problem = mode_problem named p
  let text : List ℕ = dimacs (prop_count size q.symbols) (prop_clauses_with true size q.symbols q.clauses)
  _ ← check (leb (length text) room) (needing 11 (length text))
  answer text

-- what Find finds, told yes: the least model that obeys, at the smallest size that has one
unfoldable pub symmetric_find_result : Bool → List ℕ → ℕ → ℕ → ℕ → ℕ → Answer Search
symmetric_find_result named sheet low high work room = do
  p ← placed_in named sheet
  let q : Problem = mode_problem named p
  _ ← check (leb 1 low && leb high max_size && leb low high) (unplaced 8)
  _ ← check (leb (instance_count_with true high q.symbols q.clauses) max_instances) (unplaced 9)
  _ ← check (leb (work_needed_with true high q.symbols q.clauses) work) (needing 10 (work_needed_with true high q.symbols q.clauses))
  _ ← check (leb (case_length high (shown_in named q.symbols)) room) (needing 11 (case_length high (shown_in named q.symbols)))
  answer (search_in named q low high (smallest_with true q low high))

-- The calls with both switches, named first. Write's checks of the content,
abbrev pub content_of_with : Bool → Bool → List ℕ → ℕ → Answer Problem
content_of_with named false sheet size = content_of_in named sheet size
content_of_with named true sheet size = symmetric_content_of named sheet size

-- Write: asked for the constant clauses, or not,
abbrev pub written_text_with : Bool → Bool → List ℕ → ℕ → ℕ → Answer (List ℕ)
written_text_with named false sheet size room = written_text_in named sheet size room
written_text_with named true sheet size room = symmetric_written_text named sheet size room

-- and Find: told yes, or no
abbrev pub find_result_with : Bool → Bool → List ℕ → ℕ → ℕ → ℕ → ℕ → Answer Search
find_result_with named false sheet low high work room = find_result_in named sheet low high work room
find_result_with named true sheet low high work room = symmetric_find_result named sheet low high work room
