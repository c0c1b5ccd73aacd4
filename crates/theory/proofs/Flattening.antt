-- Flattening: a clause is valid exactly if its flattened clause is, by steps 1 and 2.
use Prim.Native.Nat.{ℕ, zero, suc, ◌+◌, ◌<◌}
use mathlib.Core.Path.{◌≡◌, refl, sym, ap, ◌∙◌, fun_ext}
use mathlib.Core.Logic.{◌⊎◌, inl, inr}
use mathlib.Core.Bool.{Bool, true, false, cond, ◌||◌}
use mathlib.Core.List.{List, [], ◌∷◌, ◌++◌, map}
use native.Mathlib.Nat.{suc_inj}
use native.Mathlib.Omega.{arith}
use lib.Dec.{eqb}
use lib.ListN.{length, get_or, drop, length-append, length-map}
use lib.Seq.{drop_at}
use Rattle.theory.specs.Lists.{all}
use Rattle.theory.specs.Vectors.{AllBelow}
use Rattle.theory.specs.Syntax.{Term, variable, apply, Terms, empty, cons, Clause, Signature, variables, count, function_of, term_ok, terms_ok, clause_ok}
use Rattle.theory.specs.Truth.{Interpretation, Assignment, value, values, assign}
use Rattle.theory.specs.Flattening.{merged, turned, lifted_terms, FlatVariable, own, shallow, FlatLiteral, definitions, flatten, variable_count}
use Rattle.theory.specs.Instances.{flat_value}
use Rattle.theory.specs.Claims.Truth.{Valid}
use Rattle.theory.specs.Claims.Flattening.{flat_literal_true, flat_true, FlatValid, Closed, Flattening}
use Rattle.theory.proofs.Tests.{true-or-false, and_left, and_right, or_left, or_right}
use Rattle.theory.proofs.Lists.{any_append, map_at}
use Rattle.theory.proofs.Vectors.{all_below-map, all_below-append}
use Rattle.theory.proofs.Truth.{assign-lt, variables-agree}
use Rattle.theory.proofs.Merging.{merged→, merged←, none_left, merged-ok}
use Rattle.theory.proofs.LiftedTerms.{lifted_terms-turned, lifted_terms-covered}
use Rattle.theory.proofs.FlatForm.{turned-ok, lifted_terms-ok}
use Rattle.theory.proofs.Lifting.{Valued, shallow-true, false→defined, defined→false, defined→placed, valued→placed, valued→defined}

-- values after those of the own variables do not matter to them
assign-append : (ys u v : List ℕ) (x : ℕ) → length u ≡ length ys → assign ys (u ++ v) x ≡ assign ys u x
assign-append [] u v x e = refl
assign-append (y ∷ ys) [] v x e = let z : ◌≡◌ {A = ℕ} 0 (suc (length ys)) = e in absurd (omega arith)
assign-append (y ∷ ys) (d ∷ u) v x e = ap (cond (eqb x y) d) (assign-append ys u v x (suc_inj e))

-- where the declared functions stay below s, so do the values of terms over the signature
module _ (g : Signature) (s : ℕ) (I : Interpretation) (closed : Closed g s I) (ρ : Assignment) (below : (x : ℕ) → ρ x < s) where
  pub length-values : (ts : Terms) → length (values I ρ ts) ≡ count ts
  length-values empty = refl
  length-values (cons t ts) = ap suc (length-values ts)

  mutual
    pub value-lt : (t : Term) → term_ok g t ≡ true → value I ρ t < s
    value-lt (variable x) h = below x
    value-lt (apply f ts) h =
        closed f (values I ρ ts) (ap (function_of g f) (length-values ts) ∙ and_left (function_of g f (count ts)) (terms_ok g ts) h)
        (values-lt ts (and_right (function_of g f (count ts)) (terms_ok g ts) h))

    pub values-lt : (ts : Terms) → terms_ok g ts ≡ true → AllBelow s (values I ρ ts)
    values-lt empty h = tt
    values-lt (cons t ts) h = (value-lt t (and_left (term_ok g t) (terms_ok g ts) h), values-lt ts (and_right (term_ok g t) (terms_ok g ts) h))

  all-value-lt : (ts : List Term) → all (term_ok g) ts ≡ true → AllBelow s (map (value I ρ) ts)
  all-value-lt [] h = tt
  all-value-lt (t ∷ ts) h = (value-lt t (and_left (term_ok g t) (all (term_ok g) ts) h), all-value-lt ts (and_right (term_ok g t) (all (term_ok g) ts) h))

module _ (s : ℕ) (I : Interpretation) (pos : zero < s) (c : Clause) where
  -- the parts of the flattened clause
  abbrev m : Clause
  m = merged c

  abbrev lifted : List Term
  lifted = lifted_terms (map turned m)

  abbrev defs : List FlatLiteral
  defs = definitions lifted 0 lifted

  abbrev ls : List FlatLiteral
  ls = map (shallow lifted) (map turned m)

  -- a valid clause's flattened clause is valid: where no definition is true, the new variables have their terms' values
  valid→flat : Valid I s c → FlatValid I s (flatten c)
  unfolding flatten
  valid→flat h v e b = any_append (flat_literal_true I ν) defs ls ∙ go (true-or-false (flat_true I ν defs))
    where
      ν : FlatVariable → ℕ
      ν = flat_value (variables m) v

      go : (flat_true I ν defs ≡ true) ⊎ (flat_true I ν defs ≡ false) → (flat_true I ν defs || flat_true I ν ls) ≡ true
      go (inl k) = or_left (flat_true I ν defs) (flat_true I ν ls) k
      go (inr k) =
          or_right (flat_true I ν defs) (flat_true I ν ls)
          (shallow-true I ν lifted (defined→placed I ν lifted (false→defined I ν lifted 0 lifted k)) m (lifted_terms-turned m)
          ∙ merged→ I s c h (λ x. ν (own x)) (λ x. assign-lt s (variables m) v x pos b))

  -- a clause whose flattened clause is valid is valid: give the new variables their terms' values
  flat→valid : (g : Signature) → Closed g s I → clause_ok g c ≡ true → FlatValid I s (flatten c) → Valid I s c
  unfolding flatten variable_count
  flat→valid g closed ok h = merged← I s c go
    where
      xs : List ℕ
      xs = variables m

      lifted-ok : all (term_ok g) lifted ≡ true
      lifted-ok = lifted_terms-ok g (map turned m) (turned-ok g m (merged-ok g c ok))

      go : Valid I s m
      go ρ b =
          let u : List ℕ = map ρ xs in
          let below : AllBelow s u = all_below-map s ρ b xs in
          let τ : Assignment = assign xs u in
          let δ : List ℕ = map (value I τ) lifted in
          let ν : FlatVariable → ℕ = flat_value xs (u ++ δ) in
          let same : (λ x. ν (own x)) ≡ τ = fun_ext (λ x. assign-append xs u δ x (length-map xs ρ)) in
          let drops : drop (length xs) (u ++ δ) ≡ δ = drop_at u δ (length xs) (length-map xs ρ) in
          let valued : Valued I ν lifted =
          λ i l. ap (λ (w : List ℕ). get_or w i 0) drops ∙ map_at (value I τ) lifted i (variable 0) 0 l
          ∙ ap (λ (σ : Assignment). value I σ (get_or lifted i (variable 0))) (sym same) in
          let len : length (u ++ δ) ≡ length xs + length lifted = length-append u δ ∙ omega (arith, length-map xs ρ, length-map lifted (value I τ)) in
          let k : (flat_true I ν defs || flat_true I ν ls) ≡ true =
          sym (any_append (flat_literal_true I ν) defs ls)
          ∙ h (u ++ δ) len (all_below-append s u δ below (all-value-lt g s I closed τ (λ x. assign-lt s xs u x pos below) lifted lifted-ok)) in
          let d : flat_true I ν defs ≡ false = defined→false I ν lifted 0 lifted (valued→defined I ν lifted (lifted_terms-covered (map turned m)) valued) in
          let k₁ : flat_true I ν ls ≡ true = ap (λ (q : Bool). q || flat_true I ν ls) (sym d) ∙ k in
          sym (variables-agree I ρ m δ) ∙ sym (shallow-true I ν lifted (valued→placed I ν lifted valued) m (lifted_terms-turned m)) ∙ k₁

pub flattening : Flattening
flattening = record { none_left = none_left; validity = λ g s I c pos closed ok. (valid→flat s I pos c, flat→valid s I pos c g closed ok) }
