-- Settling: when Find answers none and settled, the sheet has no model at any size, above 8 included, nor an infinite one (source 000, EPR problems).
use Rattle.std.specs.Prelude.{ℕ, zero, ◌<◌, ◌≡◌, true, false, List, [], length, get_or}
use Rattle.theory.specs.Truth.{Interpretation, Assignment, clause_true}
use Rattle.theory.specs.Refusals.{answer}
use Rattle.theory.specs.Problem.{Problem, read_problem}
use Rattle.theory.specs.Operations.{nothing, find_result}
use Rattle.theory.specs.Claims.Flattening.{Closed}

-- the interpretation I, whose elements are the numbers that E says, falsifies the problem: some clause is false under some assignment of elements
pub record Falsifies (p : Problem) (E : ℕ → Type 0) (I : Interpretation) : Type 0 where
  pub clause : ℕ
  pub among : clause < length p.clauses
  pub assignment : Assignment
  pub elements : (x : ℕ) → E (assignment x)
  pub fails : clause_true I assignment (get_or p.clauses clause []) ≡ false

-- the problem has no model
pub record Unsatisfiable (p : Problem) : Type 0 where
  -- of any size from 1 on: every interpretation with the elements 0 to s - 1, its functions' values among them, falsifies it
  pub sizes : (s : ℕ) (I : Interpretation) → zero < s → Closed p.symbols s I → Falsifies p (λ d. d < s) I
  -- nor one with infinitely many elements: all numbers
  pub infinite : (I : Interpretation) → Falsifies p (λ d. Unit {0}) I

-- the theorem, of every search
abbrev pub SettlingHolds : Type 0
SettlingHolds = (sheet : List ℕ) (p : Problem) (low high work room : ℕ) → read_problem sheet ≡ answer p
    → find_result sheet low high work room ≡ answer (nothing true) → Unsatisfiable p
