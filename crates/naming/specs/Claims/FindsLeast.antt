-- FindsLeast: demand 2 on bytes, in the mode. What Find finds is the least model of the sheet as handed in, at the smallest size that has one; none exactly if no searched size has one.
-- It speaks of every sheet that the mode takes, also of those that the plain reader refuses with 7. And none and settled means no model at any size.
use Rattle.std.specs.Prelude.{ℕ, ◌≤◌, ◌≡◌, Bool, true, List}
use Rattle.theory.specs.Refusals.{Answer, answer}
use Rattle.theory.specs.Problem.{Problem}
use Rattle.theory.specs.Operations.{Search, found, nothing}
use Rattle.theory.specs.Claims.FindsLeast.{NotBefore}
use Rattle.theory.specs.Claims.Settling.{Unsatisfiable}
use Rattle.naming.specs.NamedReading.{read_named}
use Rattle.naming.specs.NamedOperations.{named_find_result}
use Rattle.naming.specs.Claims.ReadingBack.{SheetModel}

-- of a text c found at size s: it is a model of the sheet at a searched size, and no model of a searched size comes before it
pub record NamedLeast (p : Problem) (low high s : ℕ) (c : List ℕ) : Type 0 where
  pub model : SheetModel p s c
  pub searched : (low ≤ s) × (s ≤ high)
  pub least : (t : ℕ) (d : List ℕ) → low ≤ t → t ≤ high → SheetModel p t d → NotBefore p s model.case t d

-- the theorem, of one search
pub record NamedFindsLeast (p : Problem) (low high : ℕ) (answered : Answer Search) : Type 0 where
  pub finds : (s : ℕ) (c : List ℕ) → answered ≡ answer (found s c) → NamedLeast p low high s c
  pub finds_none : (b : Bool) → answered ≡ answer (nothing b) → (t : ℕ) (d : List ℕ) → low ≤ t → t ≤ high → SheetModel p t d → ⊥
  pub none_if : ((t : ℕ) (d : List ℕ) → low ≤ t → t ≤ high → SheetModel p t d → ⊥) → (s : ℕ) (c : List ℕ) → answered ≡ answer (found s c) → ⊥
  pub settles : answered ≡ answer (nothing true) → Unsatisfiable p

-- it holds of every search in the mode
abbrev pub NamedFindsLeastHolds : Type 0
NamedFindsLeastHolds = (sheet : List ℕ) (p : Problem) (low high work room : ℕ) → read_named sheet ≡ answer p → NamedFindsLeast p low high (named_find_result sheet low high work room)
