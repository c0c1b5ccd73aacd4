-- Encoding: the valuations that satisfy the clauses are, one to one, the interpretations that are models. Demand 3 on lists.
use Prim.Native.Nat.{ℕ, zero, ◌<◌}
use mathlib.Core.Path.{◌≡◌, refl, sym, ap, ◌∙◌}
use mathlib.Core.Bool.{Bool, true, false, ◌&&◌}
use mathlib.Core.List.{List, [], ◌∷◌}
use Rattle.theory.specs.Lists.{all}
use Rattle.theory.specs.Syntax.{Signature, Clause, clause_ok}
use Rattle.theory.specs.Truth.{Interpretation}
use Rattle.theory.specs.Cells.{interpretation, is_model}
use Rattle.theory.specs.Flattening.{flatten}
use Rattle.theory.specs.Instances.{instances}
use Rattle.theory.specs.PropClauses.{prop_clauses}
use Rattle.theory.specs.Valuation.{satisfies_clause, satisfies, is_valuation, is_functional, read_back, valuation_of}
use Rattle.theory.specs.Claims.Encoding.{Encoding, EncodingHolds}
use Rattle.theory.proofs.Tests.{iff→≡, and_left, and_right}
use Rattle.theory.proofs.Truth.{is_valid, is_valid→Valid, Valid→is_valid, is_model-all}
use Rattle.theory.proofs.FlatForm.{flatten-ok}
use Rattle.theory.proofs.Flattening.{flattening}
use Rattle.theory.proofs.Parts.{all-prop_clauses}
use Rattle.theory.proofs.Interpretations.{interpretation-closed}
use Rattle.theory.proofs.Valuations.{functional, read_back-is_interpretation, valuation_of-read_back, read_back-valuation_of}
use Rattle.theory.proofs.CellClauses.{tables-satisfied}
use Rattle.theory.proofs.Instances.{instances-true}

module _ (s : ℕ) (g : Signature) (pos : zero < s) where
  -- a valuation in which each function cell has one result
  module _ (σ : List ℕ) (h : is_valuation s g σ ≡ true) (v : is_functional s g σ ≡ true) where
    abbrev I : Interpretation
    I = interpretation s g (read_back s g σ)

    -- satisfies the instances of a clause exactly if the clause is valid in the interpretation read back
    clause-satisfied : (c : Clause) → clause_ok g c ≡ true → satisfies σ (instances s g (flatten c)) ≡ is_valid I s c
    unfolding read_back
    clause-satisfied c ok =
        let valid = flattening.validity g s I c pos (interpretation-closed s g (read_back s g σ) (read_back-is_interpretation s g σ h v)) ok in
        let flat = instances-true s g σ (functional s g σ h v) pos (flatten c) (flatten-ok g c ok) in
        iff→≡ (satisfies σ (instances s g (flatten c))) (is_valid I s c)
        (λ t. Valid→is_valid I s pos c (valid.1 (flat.0 t)))
        (λ t. flat.1 (valid.0 (is_valid→Valid I s c t)))

    clauses-satisfied : (cs : List Clause) → all (clause_ok g) cs ≡ true → all (λ c. satisfies σ (instances s g (flatten c))) cs ≡ all (is_valid I s) cs
    clauses-satisfied [] ok = refl
    clauses-satisfied (c ∷ cs) ok =
        ap (λ (b : Bool). b && all (λ c. satisfies σ (instances s g (flatten c))) cs) (clause-satisfied c (and_left (clause_ok g c) (all (clause_ok g) cs) ok))
        ∙ ap (λ (b : Bool). is_valid I s c && b) (clauses-satisfied cs (and_right (clause_ok g c) (all (clause_ok g) cs) ok))

  module _ (cs : List Clause) (ok : all (clause_ok g) cs ≡ true) where
    abbrev instances_satisfied : List ℕ → Bool
    instances_satisfied σ = all (λ c. satisfies σ (instances s g (flatten c))) cs

    parts-satisfied : (σ : List ℕ) → is_valuation s g σ ≡ true → satisfies σ (prop_clauses s g cs) ≡ (is_functional s g σ && instances_satisfied σ)
    unfolding satisfies
    parts-satisfied σ h = all-prop_clauses s g (satisfies_clause σ) cs ∙ ap (λ (b : Bool). b && instances_satisfied σ) (tables-satisfied s g σ h)

    satisfying : (σ : List ℕ) → is_valuation s g σ ≡ true → satisfies σ (prop_clauses s g cs) ≡ (is_functional s g σ && is_model s g cs (read_back s g σ))
    satisfying σ h = parts-satisfied σ h ∙ go (is_functional s g σ) refl
      where
        go : (b : Bool) → is_functional s g σ ≡ b → (b && instances_satisfied σ) ≡ (b && is_model s g cs (read_back s g σ))
        go true v = clauses-satisfied σ h v cs ok ∙ sym (is_model-all s g cs (read_back s g σ))
        go false v = refl

    encoded : Encoding s g cs
    encoded =
        record {
          satisfying = satisfying;
          reads_back = read_back-is_interpretation s g;
          one_to_one = λ σ τ h v k w e. sym (valuation_of-read_back s g σ h v) ∙ ap (valuation_of s g) e ∙ valuation_of-read_back s g τ k w;
          onto = λ vs i. let r = read_back-valuation_of s g vs i in (valuation_of s g vs, r.0, r.1, r.2);
        }

pub encoding : EncodingHolds
encoding s g cs pos ok = encoded s g pos cs ok
