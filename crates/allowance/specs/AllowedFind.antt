-- Find with an allowance of choices (document 02, slip 12), with both switches: what it answers, and what every lent byte and number is afterwards.
use Rattle.std.specs.Prelude.{ℕ, Bool, ◌&&◌, List, leb, length, replicate}
use Rattle.theory.specs.Refusals.{Answer, answer, refused, unplaced, needing, ◌>>=◌, check}
use Rattle.theory.specs.Problem.{Problem}
use Rattle.theory.specs.CaseText.{case_length}
use Rattle.theory.specs.Operations.{max_size, max_instances, over, Search, found, nothing, Found, found_case, no_case}
use Rattle.naming.specs.NamedOperations.{placed_in, mode_problem}
use Rattle.symmetry.specs.ConstantClauses.{instance_count_with, work_needed_with}
use Rattle.symmetry.specs.SymmetricOperations.{shown_in, search_in}
use Rattle.allowance.specs.AllowedSearch.{Allowed, answered, stopped_at, search_within}

-- the largest allowance
abbrev pub max_allowance : ℕ
max_allowance = 1000000

-- a result with the choices made over all sizes so far, or stopped at a size after so many
pub data Stoppable (A : Type 0) : Type 0 where
  finished : A → ℕ → Stoppable A
  stopped : ℕ → ℕ → Stoppable A

-- the result of a search with an allowance; where it stopped, all choices that are allowed were made
abbrev pub within_in : Bool → Problem → ℕ → ℕ → ℕ → Allowed → Stoppable Search
within_in named q low high allowance (answered o n) = finished (search_in named q low high o) n
within_in named q low high allowance (stopped_at s) = stopped s allowance

-- what Find finds, given so many numbers of work and an output of so many bytes: the sheet's numbers, 21 in the mode of named terms, 8, 24, 9, 10, 11
unfoldable pub find_within : Bool → Bool → List ℕ → ℕ → ℕ → ℕ → ℕ → ℕ → Answer (Stoppable Search)
find_within named symmetry sheet low high allowance work room = do
  p ← placed_in named sheet
  let q : Problem = mode_problem named p
  _ ← check (leb 1 low && leb high max_size && leb low high) (unplaced 8)
  _ ← check (leb allowance max_allowance) (unplaced 24)
  _ ← check (leb (instance_count_with symmetry high q.symbols q.clauses) max_instances) (unplaced 9)
  _ ← check (leb (work_needed_with symmetry high q.symbols q.clauses) work) (needing 10 (work_needed_with symmetry high q.symbols q.clauses))
  _ ← check (leb (case_length high (shown_in named q.symbols)) room) (needing 11 (case_length high (shown_in named q.symbols)))
  answer (within_in named q low high allowance (search_within symmetry q low high allowance))

-- what Find answers: the size and the length of the case found, or none with the mark settled, each with the choices made; or stopped
abbrev pub allowed_answer : Answer (Stoppable Search) → Answer (Stoppable Found)
allowed_answer (answer (finished (found s text) n)) = answer (finished (found_case s (length text)) n)
allowed_answer (answer (finished (nothing b) n)) = answer (finished (no_case b) n)
allowed_answer (answer (stopped s n)) = answer (stopped s n)
allowed_answer (refused r) = refused r

-- the output after Find: a found case at its front; else unchanged
abbrev pub allowed_output : Answer (Stoppable Search) → List ℕ → List ℕ
allowed_output (answer (finished (found s text) n)) out = over text out
allowed_output (answer (finished (nothing b) n)) out = out
allowed_output (answer (stopped s n)) out = out
allowed_output (refused r) out = out

-- the work after Find: zeros on every result, unchanged on a refusal
abbrev pub allowed_work : Answer (Stoppable Search) → List ℕ → List ℕ
allowed_work (answer w) work = replicate (length work) 0
allowed_work (refused r) work = work
