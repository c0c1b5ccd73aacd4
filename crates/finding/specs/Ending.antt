-- What Find leaves when it ends.
use Rattle.std.specs.Prelude.{ℕ, ◌≤◌, Bool, true, List, leb, length}
use Rattle.theory.specs.Refusals.{Answer, answer, unplaced, needing, ◌>>=◌, check}
use Rattle.theory.specs.Problem.{max_bytes}
use Rattle.theory.specs.Problem as theory
use Rattle.theory.specs.CaseText.{case_length}
use Rattle.theory.specs.Valuation.{read_back, setting_of}
use Rattle.theory.specs.Operations.{max_instances, Search, found}
use Rattle.naming.specs.NamedProblem.{shown_symbols, shown_text}
use Rattle.symmetry.specs.ConstantClauses.{instance_count_with, work_needed_with}
use Rattle.allowance.specs.AllowedSearch.{search_within}
use Rattle.allowance.specs.AllowedFind.{max_allowance, Stoppable, finished, within_in}
use Rattle.syntax.specs.declared.limits.Problem.{Problem}
use Rattle.problem.specs.Problems.{problem_in, Accepted}
use Rattle.problem.specs.Modes.{Shows}
use Rattle.finding.specs.Calls.{AllowedAnswer, AllowedCall}
use Rattle.finding.specs.Searching.{Searchable}

-- a call that ends with what is found, given so many numbers of work and so many bytes of output
abbrev pub Ends : (ℕ → ℕ → Answer (Stoppable Search)) → AllowedAnswer → List ℕ → List ℕ → List ℕ → List ℕ → Type 0
Ends finds r work work' output output' = AllowedCall (finds (length work) (length output)) r work work' output output'

-- the case of size s that the values of a search say, found after n choices
abbrev pub case_found : theory.Problem → ℕ → List ℕ → ℕ → Stoppable Search
case_found p s zs n = finished (found s (shown_text s p.symbols (read_back s p.symbols (setting_of zs)))) n

-- what Find finds of a problem that was read at the sizes from low to high where nothing is refused, with the constant clauses where they are used
abbrev pub found_within : Bool → theory.Problem → ℕ → ℕ → ℕ → ℕ → ℕ → Answer (Stoppable Search)
found_within used p low high allowance work room = answer (within_in true p low high allowance (search_within used p low high allowance))

-- and with the refusals that stand before it: 24, 9, 10, 11
unfoldable pub found_in : Bool → theory.Problem → ℕ → ℕ → ℕ → ℕ → ℕ → Answer (Stoppable Search)
found_in used p low high allowance work room = do
  _ ← check (leb allowance max_allowance) (unplaced 24)
  _ ← check (leb (instance_count_with used high p.symbols p.clauses) max_instances) (unplaced 9)
  _ ← check (leb (work_needed_with used high p.symbols p.clauses) work) (needing 10 (work_needed_with used high p.symbols p.clauses))
  _ ← check (leb (case_length high (shown_symbols p.symbols)) room) (needing 11 (case_length high (shown_symbols p.symbols)))
  found_within used p low high allowance work room

-- a problem that was read of the sheet, its declared symbols before the helpers
pub record ProblemShown (sheet : List ℕ) (p : Problem) : Type 0 where
  pub accepted : Accepted sheet p
  pub bytes : length sheet ≤ max_bytes
  pub shows : Shows sheet p.signature

-- a largest size that is not refused, given so many numbers of work and so many bytes of output
pub record SearchableUpTo (sheet : List ℕ) (p : Problem) (high work room : ℕ) : Type 0 where
  pub searchable : Searchable sheet p high work
  pub case : case_length high (shown_symbols (problem_in sheet p).symbols) ≤ room
