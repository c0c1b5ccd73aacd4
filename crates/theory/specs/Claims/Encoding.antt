-- Encoding: the valuations that satisfy the clauses are, one to one, the interpretations that are models. Demand 3 on lists.
use Rattle.std.specs.Prelude.{ℕ, zero, ◌<◌, ◌≡◌, true, ◌&&◌, List}
use Rattle.theory.specs.Lists.{all}
use Rattle.theory.specs.Syntax.{Signature, Clause, clause_ok}
use Rattle.theory.specs.Cells.{is_interpretation, is_model}
use Rattle.theory.specs.PropClauses.{prop_clauses}
use Rattle.theory.specs.Valuation.{satisfies, is_valuation, is_functional, read_back}

-- for all clauses over a signature at a size
pub record Encoding (s : ℕ) (g : Signature) (cs : List Clause) : Type 0 where
  -- a valuation satisfies the clauses exactly if each function cell has one result and the interpretation read back is a model
  pub satisfying : (σ : List ℕ) → is_valuation s g σ ≡ true → satisfies σ (prop_clauses s g cs) ≡ (is_functional s g σ && is_model s g cs (read_back s g σ))
  -- what is read back is an interpretation
  pub reads_back : (σ : List ℕ) → is_valuation s g σ ≡ true → is_functional s g σ ≡ true → is_interpretation s g (read_back s g σ) ≡ true
  -- two valuations that are read back alike are equal
  pub one_to_one : (σ τ : List ℕ) → is_valuation s g σ ≡ true → is_functional s g σ ≡ true → is_valuation s g τ ≡ true → is_functional s g τ ≡ true
      → read_back s g σ ≡ read_back s g τ → σ ≡ τ
  -- every interpretation is read back from a valuation
  pub onto : (vs : List ℕ) → is_interpretation s g vs ≡ true → (σ : List ℕ) × (is_valuation s g σ ≡ true) × (is_functional s g σ ≡ true) × (read_back s g σ ≡ vs)

-- it holds wherever the clauses are over the signature and the domain has an element
abbrev pub EncodingHolds : Type 0
EncodingHolds = (s : ℕ) (g : Signature) (cs : List Clause) → zero < s → all (clause_ok g) cs ≡ true → Encoding s g cs
