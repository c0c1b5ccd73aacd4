-- The calls with both switches as one chain of checks, with the switches put in: what the code follows.
use Prim.Native.Nat.{ℕ}
use mathlib.Core.Path.{◌≡◌, refl}
use mathlib.Core.Bool.{Bool, true, false, ◌&&◌}
use mathlib.Core.List.{List}
use lib.Dec.{leb}
use lib.ListN.{length}
use Rattle.theory.specs.Propositional.{prop_count}
use Rattle.theory.specs.PropClauses.{parts, prop_clauses, instance_count, literal_count, work_needed}
use Rattle.theory.specs.Dimacs.{dimacs}
use Rattle.theory.specs.Refusals.{Answer, answer, unplaced, needing, check, ◌>>=◌}
use Rattle.theory.specs.Problem.{Problem}
use Rattle.theory.specs.CaseText.{case_length}
use Rattle.theory.specs.Least.{smallest_model}
use Rattle.theory.specs.Operations.{max_size, max_instances, is_size, content_of, written_text, Search, find_result}
use Rattle.naming.specs.NamedOperations.{placed_in, mode_problem, named_content_of, named_written_text, named_find_result}
use Rattle.symmetry.specs.ConstantClauses.{parts_with, prop_clauses_with, instance_count_with, literal_count_with, work_needed_with}
use Rattle.symmetry.specs.Obeying.{smallest_with}
use Rattle.symmetry.specs.SymmetricOperations.{shown_in, search_in, symmetric_content_of, symmetric_written_text, symmetric_find_result, content_of_with, written_text_with, find_result_with}

-- Write's checks of the content
unfoldable pub content_chain : Bool → Bool → List ℕ → ℕ → Answer Problem
content_chain named used sheet size = do
  p ← placed_in named sheet
  let q : Problem = mode_problem named p
  _ ← check (is_size size) (unplaced 8)
  _ ← check (leb (instance_count_with used size q.symbols q.clauses) max_instances) (unplaced 9)
  answer p

-- Write
unfoldable pub write_chain : Bool → Bool → List ℕ → ℕ → ℕ → Answer (List ℕ)
write_chain named used sheet size room = do
  p ← content_chain named used sheet size
  let q : Problem = mode_problem named p
  let text : List ℕ = dimacs (prop_count size q.symbols) (prop_clauses_with used size q.symbols q.clauses)
  _ ← check (leb (length text) room) (needing 11 (length text))
  answer text

-- Find
unfoldable pub find_chain : Bool → Bool → List ℕ → ℕ → ℕ → ℕ → ℕ → Answer Search
find_chain named used sheet low high work room = do
  p ← placed_in named sheet
  let q : Problem = mode_problem named p
  _ ← check (leb 1 low && leb high max_size && leb low high) (unplaced 8)
  _ ← check (leb (instance_count_with used high q.symbols q.clauses) max_instances) (unplaced 9)
  _ ← check (leb (work_needed_with used high q.symbols q.clauses) work) (needing 10 (work_needed_with used high q.symbols q.clauses))
  _ ← check (leb (case_length high (shown_in named q.symbols)) room) (needing 11 (case_length high (shown_in named q.symbols)))
  answer (search_in named q low high (smallest_with used q low high))

-- they are the calls
pub content-chain : (named used : Bool) (sheet : List ℕ) (size : ℕ) → content_of_with named used sheet size ≡ content_chain named used sheet size
unfolding content_chain content_of named_content_of symmetric_content_of instance_count_with instance_count parts_with parts
content-chain false false sheet size = refl
content-chain true false sheet size = refl
content-chain named true sheet size = refl

pub write-chain : (named used : Bool) (sheet : List ℕ) (size room : ℕ) → written_text_with named used sheet size room ≡ write_chain named used sheet size room
unfolding content_chain write_chain content_of named_content_of symmetric_content_of written_text named_written_text symmetric_written_text instance_count_with instance_count prop_clauses_with prop_clauses parts_with parts
write-chain false false sheet size room = refl
write-chain true false sheet size room = refl
write-chain named true sheet size room = refl

pub find-chain : (named used : Bool) (sheet : List ℕ) (low high work room : ℕ) → find_result_with named used sheet low high work room ≡ find_chain named used sheet low high work room
unfolding find_chain find_result named_find_result symmetric_find_result work_needed_with work_needed literal_count_with literal_count instance_count_with instance_count parts_with parts smallest_with smallest_model
find-chain false false sheet low high work room = refl
find-chain true false sheet low high work room = refl
find-chain named true sheet low high work room = refl
