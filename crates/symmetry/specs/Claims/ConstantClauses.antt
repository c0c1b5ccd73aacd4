-- The constant clauses: a valuation satisfies the clauses with them exactly if the interpretation read back is a model that obeys.
use Rattle.std.specs.Prelude.{ℕ, zero, ◌+◌, ◌-◌, ◌*◌, ◌≤◌, ◌<◌, min, ◌≡◌, Bool, true, false, ◌&&◌, List, map, length}
use Rattle.theory.specs.Lists.{all, sum, up_from}
use Rattle.theory.specs.Syntax.{Signature, Clause, clause_ok}
use Rattle.theory.specs.Cells.{is_model}
use Rattle.theory.specs.Propositional.{prop_count}
use Rattle.theory.specs.PropClauses.{prop_clauses, instance_count, literal_count}
use Rattle.theory.specs.Valuation.{satisfies, is_valuation, is_functional, read_back}
use Rattle.theory.specs.Problem.{Problem}
use Rattle.theory.specs.Claims.Walk.{read_back_found}
use Rattle.theory.specs.Claims.Counts.{is_numbered}
use Rattle.symmetry.specs.ConstantClauses.{constant_places, prop_clauses_with, instance_count_with, literal_count_with, work_needed_with}
use Rattle.symmetry.specs.Obeying.{obeys, least_with, searched_with}

-- the numbers 1, 2, .. of the declared constants
abbrev pub constant_numbers : Signature → List ℕ
constant_numbers g = up_from 1 (length (constant_places g))

-- the theorem
pub record ConstantClauses : Type 0 where
  -- where they are not used, the clauses are those of document 01
  pub not_used : (s : ℕ) (g : Signature) (cs : List Clause) → prop_clauses_with false s g cs ≡ prop_clauses s g cs
  -- used, they are satisfied exactly by the valuations of the models that obey
  pub used : (s : ℕ) (g : Signature) (cs : List Clause) → zero < s → all (clause_ok g) cs ≡ true → (σ : List ℕ) → is_valuation s g σ ≡ true
      → satisfies σ (prop_clauses_with true s g cs) ≡ (is_functional s g σ && (is_model s g cs (read_back s g σ) && obeys s g (read_back s g σ)))
  -- I grows by min(i, s) for the i-th constant, and L by min(i, s) + (min(i, s) - 1)·i
  pub clause_counts : (s : ℕ) (g : Signature) (cs : List Clause) → instance_count_with true s g cs ≡ instance_count s g cs + sum (map (λ i. min i s) (constant_numbers g))
  pub literal_counts : (s : ℕ) (g : Signature) (cs : List Clause)
      → literal_count_with true s g cs ≡ literal_count s g cs + sum (map (λ i. min i s + (min i s - 1) * i) (constant_numbers g))
  -- what is written is within I and L
  pub clauses : (s : ℕ) (g : Signature) (cs : List Clause) → zero < s → length (prop_clauses_with true s g cs) ≤ instance_count_with true s g cs
  pub literals : (s : ℕ) (g : Signature) (cs : List Clause) → zero < s → sum (map length (prop_clauses_with true s g cs)) ≤ literal_count_with true s g cs
  -- every written number is one of 1 to V
  pub numbers : (s : ℕ) (g : Signature) (cs : List Clause) → zero < s → all (clause_ok g) cs ≡ true → all (all (is_numbered (prop_count s g))) (prop_clauses_with true s g cs) ≡ true
  -- what the walk finds is read back as the least model that is searched
  pub walk : (b : Bool) (s : ℕ) (p : Problem) → zero < s → all (clause_ok p.symbols) p.clauses ≡ true → read_back_found s p (searched_with b s p).answer ≡ least_with b s p
  -- a larger size needs no less
  pub instances_grow : (b : Bool) (s t : ℕ) (g : Signature) (cs : List Clause) → s ≤ t → instance_count_with b s g cs ≤ instance_count_with b t g cs
  pub work_grows : (b : Bool) (s t : ℕ) (g : Signature) (cs : List Clause) → s ≤ t → work_needed_with b s g cs ≤ work_needed_with b t g cs
