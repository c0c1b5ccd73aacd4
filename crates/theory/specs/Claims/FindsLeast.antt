-- FindsLeast: demand 2 on bytes. What Find finds is the least model of the sheet at the smallest size that has one; it says none exactly if no case of a searched size is a model.
use Rattle.std.specs.Prelude.{ℕ, ◌≤◌, ◌<◌, ◌≡◌, ◌⊎◌, Bool, List}
use Rattle.theory.specs.Refusals.{Answer, answer}
use Rattle.theory.specs.Problem.{Problem, read_problem}
use Rattle.theory.specs.CaseText.{Case, read_case}
use Rattle.theory.specs.Operations.{Search, found, nothing, find_result}
use Rattle.theory.specs.Claims.ReadingBack.{ModelText}
use Rattle.theory.specs.Claims.Least.{NotAfter}

-- the text d of a model of size t does not come before the case k of size s: its size is larger, or the same and its values do not come before
pub record NotBefore (p : Problem) (s : ℕ) (k : Case) (t : ℕ) (d : List ℕ) : Type 0 where
  pub case : Case
  pub read : read_case p.symbols d ≡ answer case
  pub after : (s < t) ⊎ ((s ≡ t) × NotAfter k.values case.values)

-- of a text c found at size s: it is a model of the sheet at a searched size, and no model of a searched size comes before it
pub record LeastText (sheet : List ℕ) (p : Problem) (low high s : ℕ) (c : List ℕ) : Type 0 where
  pub model : ModelText sheet p s c
  pub searched : (low ≤ s) × (s ≤ high)
  pub least : (t : ℕ) (d : List ℕ) → low ≤ t → t ≤ high → ModelText sheet p t d → NotBefore p s model.case t d

-- the theorem, of one search
pub record FindsLeast (sheet : List ℕ) (p : Problem) (low high : ℕ) (answered : Answer Search) : Type 0 where
  pub finds : (s : ℕ) (c : List ℕ) → answered ≡ answer (found s c) → LeastText sheet p low high s c
  pub finds_none : (b : Bool) → answered ≡ answer (nothing b) → (t : ℕ) (d : List ℕ) → low ≤ t → t ≤ high → ModelText sheet p t d → ⊥
  pub none_if : ((t : ℕ) (d : List ℕ) → low ≤ t → t ≤ high → ModelText sheet p t d → ⊥) → (s : ℕ) (c : List ℕ) → answered ≡ answer (found s c) → ⊥

-- it holds of every search
abbrev pub FindsLeastHolds : Type 0
FindsLeastHolds = (sheet : List ℕ) (p : Problem) (low high work room : ℕ) → read_problem sheet ≡ answer p → FindsLeast sheet p low high (find_result sheet low high work room)
