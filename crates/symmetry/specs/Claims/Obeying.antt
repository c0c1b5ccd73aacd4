-- Obeying: every model has a renumbering that obeys; so none is said alike with and without the constant clauses, and where constants come first the least model is the same.
use Rattle.std.specs.Prelude.{ℕ, zero, ◌≤◌, ◌<◌, ◌≡◌, ◌↔◌, true, false, List}
use Rattle.std.proofs.Math.Option.{none, some}
use Rattle.theory.specs.Lists.{all}
use Rattle.theory.specs.Syntax.{clause_ok}
use Rattle.theory.specs.Refusals.{answer}
use Rattle.theory.specs.Problem.{Problem, read_problem}
use Rattle.theory.specs.CaseText.{Case}
use Rattle.theory.specs.Least.{least_model, smallest_model}
use Rattle.theory.specs.Claims.Least.{NotAfter, ModelCells}
use Rattle.renumbering.specs.Rearrangements.{is_rearrangement}
use Rattle.renumbering.specs.Renumbering.{renumbered}
use Rattle.symmetry.specs.Obeying.{obeys, least_obeying, smallest_with, constants_first, functions_first}

-- a model that obeys the constant clauses
pub record Obeying (p : Problem) (s : ℕ) (v : List ℕ) : Type 0 where
  pub model : ModelCells p s v
  pub obeying : obeys s p.symbols v ≡ true

-- a renumbering of v that is a model and obeys
pub record Renumbered (p : Problem) (s : ℕ) (v : List ℕ) : Type 0 where
  pub by : List ℕ
  pub rearrangement : is_rearrangement s by ≡ true
  pub obeying : Obeying p s (renumbered s p.symbols by v)

-- the theorem, of one problem whose clauses are over its symbols
pub record Twins (p : Problem) : Type 0 where
  -- every model has a renumbering that obeys
  pub every_model : (s : ℕ) (v : List ℕ) → zero < s → ModelCells p s v → Renumbered p s v
  -- the least that obeys is a model that obeys, and no other comes before it
  pub is_least : (s : ℕ) (v : List ℕ) → least_obeying s p ≡ some v → Obeying p s v × ((u : List ℕ) → Obeying p s u → NotAfter v u)
  -- there is none exactly if there is no model at all
  pub no_least : (s : ℕ) → zero < s → (least_obeying s p ≡ none) ↔ (least_model s p ≡ none)
  -- where constants come first the least model obeys, and the two are the same
  pub obeys_first : (s : ℕ) (v : List ℕ) → zero < s → functions_first p.symbols ≡ true → constants_first p.symbols ≡ true → least_model s p ≡ some v → obeys s p.symbols v ≡ true
  pub same_least : (s : ℕ) → zero < s → functions_first p.symbols ≡ true → constants_first p.symbols ≡ true → least_obeying s p ≡ least_model s p
  -- over the sizes searched: not used, it is the search of document 01
  pub not_used : (low high : ℕ) → smallest_with false p low high ≡ smallest_model p low high
  -- none is said alike
  pub none_alike : (low high : ℕ) → zero < low → (smallest_with true p low high ≡ none) ↔ (smallest_model p low high ≡ none)
  -- what is found is the least of its size that obeys; its size is searched, and no smaller searched size has a model
  pub found : (low high : ℕ) (k : Case) → zero < low → smallest_with true p low high ≡ some k
      → (low ≤ k.size) × (k.size ≤ high) × (least_obeying k.size p ≡ some k.values) × ((s : ℕ) (u : List ℕ) → low ≤ s → s < k.size → ModelCells p s u → ⊥)
  -- where constants come first, the same case is found
  pub same_case : (low high : ℕ) → zero < low → functions_first p.symbols ≡ true → constants_first p.symbols ≡ true → smallest_with true p low high ≡ smallest_model p low high

-- it holds wherever the clauses are over the symbols; and of every sheet, whose functions come first
pub record TwinsHold : Type 0 where
  pub problems : (p : Problem) → all (clause_ok p.symbols) p.clauses ≡ true → Twins p
  pub sheets : (sheet : List ℕ) (p : Problem) → read_problem sheet ≡ answer p → Twins p × (functions_first p.symbols ≡ true)
