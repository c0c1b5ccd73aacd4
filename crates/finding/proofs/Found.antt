-- A valuation that was found: it is one of all variables, and functional.
use Prim.Native.Nat.{ℕ, zero, ◌<◌}
use mathlib.Core.Path.{◌≡◌, sym, ap, ◌∙◌}
use mathlib.Core.Bool.{Bool, true, false, ◌&&◌}
use mathlib.Core.Option.{none, some}
use mathlib.Core.List.{List}
use lib.Dec.{ltb}
use lib.ListN.{length, replicate, length-replicate}
use Rattle.theory.specs.Lists.{all}
use Rattle.theory.specs.Syntax.{Signature, Clause, clause_ok}
use Rattle.theory.specs.Cells.{is_model}
use Rattle.theory.specs.Propositional.{PropClause, prop_count}
use Rattle.theory.specs.Valuation.{satisfies, is_valuation, is_functional, read_back}
use Rattle.theory.specs.Problem.{Problem}
use Rattle.theory.specs.Walk.{yes_first}
use Rattle.theory.proofs.Tests.{and_left}
use Rattle.theory.proofs.First.{first_some}
use Rattle.theory.proofs.Numbering.{widths-total}
use Rattle.theory.proofs.Valuations.{is_valuation←}
use Rattle.theory.proofs.Encoding.{encoding}
use Rattle.theory.proofs.Completions.{completions, completion-bits}
use Rattle.theory.proofs.Walking.{walked-first}
use Rattle.symmetry.specs.ConstantClauses.{prop_clauses_with}
use Rattle.symmetry.specs.Obeying.{obeys, searched_with}
use Rattle.symmetry.proofs.ConstantClauses.{constant_clauses}

-- what is known of a valuation that the search at size s found
pub record FoundAt (used : Bool) (s : ℕ) (p : Problem) (σ : List ℕ) : Type 0 where
  pub sized : length σ ≡ prop_count s p.symbols
  pub binary : all (λ b. ltb b 2) σ ≡ true
  pub functional : is_functional s p.symbols σ ≡ true

-- a valuation that satisfies the clauses is functional, with the constant clauses or without
functional-with : (used : Bool) (s : ℕ) (g : Signature) (cs : List Clause) → zero < s → all (clause_ok g) cs ≡ true → (σ : List ℕ) → is_valuation s g σ ≡ true → satisfies σ (prop_clauses_with used s g cs) ≡ true
    → is_functional s g σ ≡ true
functional-with true s g cs pos ok σ i h = and_left (is_functional s g σ) (is_model s g cs (read_back s g σ) && obeys s g (read_back s g σ)) (sym (constant_clauses.used s g cs pos ok σ i) ∙ h)
functional-with false s g cs pos ok σ i h =
    and_left (is_functional s g σ) (is_model s g cs (read_back s g σ)) (sym ((encoding s g cs pos ok).satisfying σ i) ∙ sym (ap (satisfies σ) (constant_clauses.not_used s g cs)) ∙ h)

module _ (used : Bool) (s : ℕ) (p : Problem) (pos : zero < s) (ok : all (clause_ok p.symbols) p.clauses ≡ true) where
  abbrev g : Signature
  g = p.symbols

  abbrev cs : List PropClause
  cs = prop_clauses_with used s g p.clauses

  pub found_at : (σ : List ℕ) → (searched_with used s p).answer ≡ some σ → FoundAt used s p σ
  unfolding searched_with
  found_at σ e =
      let v : ℕ = prop_count s g in
      let m = first_some (completions (yes_first s g) (replicate v none)) (λ σ. satisfies σ cs) σ (sym (walked-first cs (yes_first s g) v) ∙ e) in
      let b = completion-bits (yes_first s g) (replicate v none) σ m.0 in
      let l : length σ ≡ v = b.0 ∙ length-replicate v none in
      let i : is_valuation s g σ ≡ true = is_valuation← s g σ (l ∙ sym (widths-total s g)) b.1 in
      record {
        sized = l;
        binary = b.1;
        functional = functional-with used s g p.clauses pos ok σ i m.1;
      }
