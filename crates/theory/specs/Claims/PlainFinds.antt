-- PlainFinds: demand 2 on bytes, of Find plain. What it finds is the least model of the sheet at the smallest size that has one, it says none exactly if no case of a searched size is a model, and where
-- none is settled there is no model at any size.
use Rattle.std.specs.Prelude.{ℕ, ◌≡◌, true, List}
use Rattle.theory.specs.Refusals.{answer}
use Rattle.theory.specs.Problem.{Problem, read_problem}
use Rattle.theory.specs.Operations.{nothing}
use Rattle.theory.specs.PlainSearch.{plain_result}
use Rattle.theory.specs.Claims.FindsLeast.{FindsLeast}
use Rattle.theory.specs.Claims.Settling.{Unsatisfiable}

-- the theorem, of one search
pub record PlainFinds (sheet : List ℕ) (p : Problem) (low high room : ℕ) : Type 0 where
  pub least : FindsLeast sheet p low high (plain_result sheet low high room)
  pub settles : plain_result sheet low high room ≡ answer (nothing true) → Unsatisfiable p

-- it holds of every search
abbrev pub PlainFindsHolds : Type 0
PlainFindsHolds = (sheet : List ℕ) (p : Problem) (low high room : ℕ) → read_problem sheet ≡ answer p → PlainFinds sheet p low high room
