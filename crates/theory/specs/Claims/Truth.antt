-- Truth: the computed test is truth under every assignment, as source 004 lists it; and what a failure says.
use Rattle.std.specs.Prelude.{ℕ, zero, ◌<◌, ◌≡◌, ◌↔◌, true, false, List, [], ◌∷◌, length, get_or}
use Rattle.std.proofs.Math.Option.{some}
use Rattle.theory.specs.Syntax.{Signature, Clause, variables}
use Rattle.theory.specs.Truth.{Interpretation, Assignment, clause_true, assign, Failure}
use Rattle.theory.specs.Cells.{interpretation, judged, is_model}

-- the clause is true under every assignment of elements 0 to s - 1
abbrev pub Valid : Interpretation → ℕ → Clause → Type 0
Valid I s c = (ρ : Assignment) → ((x : ℕ) → ρ x < s) → clause_true I ρ c ≡ true

-- every clause of the list is
abbrev pub AllValid : Interpretation → ℕ → List Clause → Type 0
AllValid I s [] = Unit {0}
AllValid I s (c ∷ cs) = Valid I s c × AllValid I s cs

-- the theorem
pub record Truth : Type 0 where
  -- cell values are judged a model exactly if every clause is true under every assignment
  pub model : (s : ℕ) (g : Signature) (cs : List Clause) (vs : List ℕ) → zero < s → (is_model s g cs vs ≡ true) ↔ AllValid (interpretation s g vs) s cs
  -- a failure names a clause and values of its variables under which it is false
  pub failure : (s : ℕ) (g : Signature) (cs : List Clause) (vs : List ℕ) (f : Failure) → judged s g cs vs ≡ some f
      → (f.clause < length cs)
      × (clause_true (interpretation s g vs) (assign (variables (get_or cs f.clause [])) f.choice) (get_or cs f.clause []) ≡ false)
  -- every clause before it is true under every assignment
  pub earlier : (s : ℕ) (g : Signature) (cs : List Clause) (vs : List ℕ) (f : Failure) → zero < s → judged s g cs vs ≡ some f
      → (i : ℕ) → i < f.clause → Valid (interpretation s g vs) s (get_or cs i [])
