-- Least: what is found is the least model at the smallest size; none is said exactly if no case of a searched size is a model. Demand 2 on lists.
use Rattle.std.specs.Prelude.{ℕ, ◌≤◌, ◌<◌, ◌≡◌, ◌⊎◌, ◌↔◌, true, List, [], ◌∷◌}
use Rattle.std.proofs.Math.Option.{none, some}
use Rattle.theory.specs.Cells.{is_interpretation, is_model}
use Rattle.theory.specs.Problem.{Problem}
use Rattle.theory.specs.CaseText.{Case}
use Rattle.theory.specs.Least.{least_model, smallest_model}

-- v is u, or comes before it in value order, cell by cell
abbrev pub NotAfter : List ℕ → List ℕ → Type 0
NotAfter [] u = Unit {0}
NotAfter (d ∷ v) [] = ⊥
NotAfter (d ∷ v) (e ∷ u) = (d < e) ⊎ ((d ≡ e) × NotAfter v u)

-- the cell values are a model of the problem at size s
pub record ModelCells (p : Problem) (s : ℕ) (v : List ℕ) : Type 0 where
  pub interpretation : is_interpretation s p.symbols v ≡ true
  pub model : is_model s p.symbols p.clauses v ≡ true

-- the theorem, of one problem
pub record Least (p : Problem) : Type 0 where
  -- the least model of a size is a model of that size, and no other comes before it
  pub is_least : (s : ℕ) (v : List ℕ) → least_model s p ≡ some v → ModelCells p s v × ((u : List ℕ) → ModelCells p s u → NotAfter v u)
  -- there is none exactly if no interpretation of that size is a model
  pub no_least : (s : ℕ) → (least_model s p ≡ none) ↔ ((u : List ℕ) → ModelCells p s u → ⊥)
  -- the smallest model is the least of its size, its size is searched, and no smaller searched size has a model
  pub smallest : (low high : ℕ) (k : Case) → smallest_model p low high ≡ some k
      → (low ≤ k.size) × (k.size ≤ high) × (least_model k.size p ≡ some k.values) × ((s : ℕ) (u : List ℕ) → low ≤ s → s < k.size → ModelCells p s u → ⊥)
  -- there is none exactly if no searched size has a model
  pub no_smallest : (low high : ℕ) → (smallest_model p low high ≡ none) ↔ ((s : ℕ) (u : List ℕ) → low ≤ s → s ≤ high → ModelCells p s u → ⊥)

-- it holds of every problem
abbrev pub LeastHolds : Type 0
LeastHolds = (p : Problem) → Least p
