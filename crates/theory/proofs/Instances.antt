-- Instances: a valuation satisfies the instances of a flattened clause exactly if the clause is true under all values in the interpretation read back.
use Prim.Native.Nat.{ℕ, zero, ◌+◌, ◌<◌}
use mathlib.Core.Path.{◌≡◌, refl, sym, ap, ◌∙◌}
use mathlib.Core.Logic.{◌↔◌}
use mathlib.Core.Bool.{Bool, true, false, cond, ◌||◌, beq, and-true, or-true}
use mathlib.Core.Option.{Option, none, some}
use mathlib.Core.List.{List, [], ◌∷◌, map}
use native.Mathlib.Omega.{arith}
use lib.ListN.{length, get_or, drop, length-map}
use Rattle.theory.specs.Lists.{all, concat_map}
use Rattle.theory.specs.Vectors.{vectors, AllBelow}
use Rattle.theory.specs.Syntax.{Kind, function, predicate, Signature, symbol_at}
use Rattle.theory.specs.Truth.{Interpretation}
use Rattle.theory.specs.Cells.{cell, cell_kinds, interpretation}
use Rattle.theory.specs.Flattening.{FlatVariable, own, new, FlatAtom, flat_predicate, flat_result, flat_equality, FlatLiteral, FlatClause, variable_count}
use Rattle.theory.specs.Lifted.{flat_atom_ok, flat_ok}
use Rattle.theory.specs.Propositional.{PropClause, prop_variable}
use Rattle.theory.specs.Instances.{flat_value, Ground, known, variable, ground, add_literal, instance, kept, instances}
use Rattle.theory.specs.Valuation.{says, satisfies_clause, satisfies, values_of}
use Rattle.theory.specs.Claims.Flattening.{flat_atom_true, flat_literal_true, flat_true, FlatValid}
use Rattle.theory.proofs.Tests.{and_left, and_right}
use Rattle.theory.proofs.Lists.{all-concat_map}
use Rattle.theory.proofs.Declared.{Declared, function_of→, predicate_of→}
use Rattle.theory.proofs.Vectors.{all-vectors, vectors-all, all_below-map, all_below-drop, all_below-get_d}
use Rattle.theory.proofs.Truth.{assign-lt}
use Rattle.theory.proofs.Numbering.{offset, cell_below, kind-at-cell, length-cell_kinds, prop_variable-offset}
use Rattle.theory.proofs.Valuations.{Functional, says-result, says_holds}

-- the values of all variables are below s
pub flat_value-below : (s : ℕ) (owns v : List ℕ) → zero < s → AllBelow s v → (x : FlatVariable) → flat_value owns v x < s
flat_value-below s owns v h b (own x) = assign-lt s owns v x h b
flat_value-below s owns v h b (new i) = all_below-get_d s (drop (length owns) v) i h (all_below-drop s (length owns) v b)

module _ (s : ℕ) (g : Signature) (σ : List ℕ) (f : Functional s (cell_kinds s g) σ) where
  abbrev ks : List Kind
  ks = cell_kinds s g

  abbrev I : Interpretation
  I = interpretation s g (values_of s ks σ)

  -- the truth of a ground atom under the valuation
  abbrev ground_true : Ground → Bool
  ground_true (known b) = b
  ground_true (variable n) = says σ n

  -- one more literal
  add-literal : (b : Bool) (a : Ground) (o : Option PropClause)
      → all (satisfies_clause σ) (kept (add_literal b a o)) ≡ (beq b (ground_true a) || all (satisfies_clause σ) (kept o))
  add-literal b (known v) o = go (beq b v)
    where
      go : (q : Bool) → all (satisfies_clause σ) (kept (cond q none o)) ≡ (q || all (satisfies_clause σ) (kept o))
      go true = refl
      go false = refl
  add-literal b (variable n) none = sym (or-true (beq b (says σ n)))
  add-literal b (variable n) (some c) =
      and-true (beq b (says σ n) || satisfies_clause σ c) ∙ ap (λ (q : Bool). beq b (says σ n) || q) (sym (and-true (satisfies_clause σ c)))

  module _ (ν : FlatVariable → ℕ) (below : (x : FlatVariable) → ν x < s) where
    -- the cell of a declared symbol at the variables' values
    module _ (i : ℕ) (xs : List FlatVariable) (k : Kind) (d : Declared g i k (length xs)) where
      abbrev v : List ℕ
      v = map ν xs

      abbrev sized : length v ≡ (symbol_at g i).arity
      sized = length-map xs ν ∙ d.arity

      at_offset : (e : ℕ) → prop_variable s g i v e ≡ 1 + (offset s ks (cell s g i v) + e)
      at_offset = prop_variable-offset s g i v d.below sized (all_below-map s ν below xs)

      in-range : cell s g i v < length ks
      in-range = omega (arith, cell_below s g i v d.below sized (all_below-map s ν below xs), length-cell_kinds s g)

      of-kind : get_or ks (cell s g i v) predicate ≡ k
      of-kind = kind-at-cell s g i v d.below sized (all_below-map s ν below xs) ∙ d.kind

    ground-true : (a : FlatAtom) → flat_atom_ok g a ≡ true → ground_true (ground s g ν a) ≡ flat_atom_true I ν a
    ground-true (flat_predicate p xs) h =
        let d = predicate_of→ g p (length xs) h in
        ap (says σ) (at_offset p xs predicate d 0) ∙ says_holds s ks σ f (cell s g p (map ν xs)) (in-range p xs predicate d) (of-kind p xs predicate d)
    ground-true (flat_result p xs y) h =
        let d = function_of→ g p (length xs) h in
        ap (says σ) (at_offset p xs function d (ν y))
        ∙ says-result s ks σ f (cell s g p (map ν xs)) (in-range p xs function d) (of-kind p xs function d) (ν y) (below y)
    ground-true (flat_equality x y) h = refl

    -- an instance is satisfied exactly if the clause is true under these values; one that is dropped is true
    instance-true : (ls : List FlatLiteral) → flat_ok g ls ≡ true → all (satisfies_clause σ) (kept (instance s g ν ls)) ≡ flat_true I ν ls
    instance-true [] h = refl
    instance-true (l ∷ ls) h =
        add-literal l.sign (ground s g ν l.atom) (instance s g ν ls)
        ∙ ap (λ (q : Bool). beq l.sign q || all (satisfies_clause σ) (kept (instance s g ν ls))) (ground-true l.atom (and_left (flat_atom_ok g l.atom) (flat_ok g ls) h))
        ∙ ap (λ (q : Bool). flat_literal_true I ν l || q) (instance-true ls (and_right (flat_atom_ok g l.atom) (flat_ok g ls) h))

  pub instances-true : zero < s → (c : FlatClause) → flat_ok g c.literals ≡ true → (satisfies σ (instances s g c) ≡ true) ↔ FlatValid I s c
  unfolding satisfies instances
  instances-true pos c h =
      let one : List ℕ → List PropClause = λ v. kept (instance s g (flat_value c.owns v) c.literals) in
      let p : List ℕ → Bool = λ v. all (satisfies_clause σ) (one v) in
      let n : ℕ = variable_count c in
      let same : (v : List ℕ) → AllBelow s v → p v ≡ flat_true I (flat_value c.owns v) c.literals =
      λ v b. instance-true (flat_value c.owns v) (flat_value-below s c.owns v pos b) c.literals h in
      let cut : all (satisfies_clause σ) (concat_map one (vectors s n)) ≡ all p (vectors s n) = all-concat_map (satisfies_clause σ) one (vectors s n) in
      (λ t v e b. sym (same v b) ∙ all-vectors s n p (sym cut ∙ t) v e b, λ t. cut ∙ vectors-all s n p (λ v e b. same v b ∙ t v e b))
