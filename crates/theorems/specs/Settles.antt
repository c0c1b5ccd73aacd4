-- Settles, of the calls (document 02, slip 6): when Find or Find plain answers none and settled, the sheet has no model at any size, above 8 included, nor an infinite one. What that means is `theory/specs/Claims/Settling`:
-- every interpretation makes some clause false under some assignment.
use Rattle.std.specs.Prelude.{ℕ, ◌≡◌, Bool, true, List, Ok}
use Rattle.theory.specs.Refusals.{answer}
use Rattle.theory.specs.Problem.{Problem, read_problem}
use Rattle.theory.specs.Claims.Settling.{Unsatisfiable}
use Rattle.naming.specs.NamedOperations.{read_problem_in}
use Rattle.answers.specs.declared.PlainResult.TheVariants.{Nothing}
use Rattle.answers.specs.Answers.{FindAnswer}
use Rattle.answers.specs.Calls.{PlainCall}
use Rattle.theorems.specs.Unstopped.{UnstoppedCall}

-- it holds of every call; of Find in the mode of named terms too, whether the constant clauses are used or not
pub record Settles : Type 0 where
  pub find : (sheet : List ℕ) (p : Problem) (low high : ℕ) (named symmetry : Bool) → read_problem_in named sheet ≡ answer p
      → (r : FindAnswer) (work work' output output' : List ℕ) → UnstoppedCall sheet low high named symmetry r work work' output output' → r ≡ Ok (Nothing true) → Unsatisfiable p
  pub find_plain : (sheet : List ℕ) (p : Problem) (low high : ℕ) → read_problem sheet ≡ answer p
      → (r : FindAnswer) (output output' : List ℕ) → PlainCall sheet low high r output output' → r ≡ Ok (Nothing true) → Unsatisfiable p
