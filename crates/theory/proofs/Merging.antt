-- Merging, step 1: it keeps what a clause says and that it is over the signature, and leaves no negative equality of two variables.
use Prim.Native.Nat.{ℕ, zero, suc, ◌≤◌}
use mathlib.Core.Path.{◌≡◌, refl, sym, ap, ◌∙◌, fun_ext}
use mathlib.Core.Bool.{Bool, true, false, cond, ◌&&◌, ◌||◌, beq}
use mathlib.Core.Option.{Option, none, some, some-injective}
use mathlib.Core.List.{[], ◌∷◌, map}
use native.Mathlib.Nat.{le_refl}
use native.Mathlib.Omega.{arith}
use lib.Dec.{eqb}
use lib.ListN.{length, length-map}
use Rattle.theory.specs.Syntax.{Term, variable, apply, Terms, empty, cons, Atom, equal, holds, Clause, Signature, count, function_of, predicate_of, term_ok, terms_ok, atom_ok, clause_ok}
use Rattle.theory.specs.Truth.{Interpretation, Assignment, value, values, atom_true, literal_true, clause_true}
use Rattle.theory.specs.Flattening.{rename, rename_term, rename_terms, rename_atom, rename_literal, unequal_variables, Unequal, leftmost_at, leftmost, merge_found, merge, merged}
use Rattle.theory.specs.Claims.Truth.{Valid}
use Rattle.theory.proofs.Tests.{eqb-true, eqb_same, eqb-of-≡, and_left, and_right, and-join}

-- the inequality of A and B puts A for B to its left too
renamed-left :
    merged (record { sign = true; atom = holds 0 (cons (variable 1) empty) } ∷ record { sign = false; atom = equal (variable 0) (variable 1) } ∷ [])
    ≡ record { sign = true; atom = holds 0 (cons (variable 0) empty) } ∷ []
unfolding merged
renamed-left = refl

module _ (I : Interpretation) where
  module _ (ρ : Assignment) (x y : ℕ) where
    -- to rename is to look the other variable up
    abbrev ρ' : Assignment
    ρ' z = ρ (rename x y z)

    mutual
      rename-value : (t : Term) → value I ρ (rename_term x y t) ≡ value I ρ' t
      rename-value (variable z) = refl
      rename-value (apply f ts) = ap (I.function f) (rename-values ts)

      rename-values : (ts : Terms) → values I ρ (rename_terms x y ts) ≡ values I ρ' ts
      rename-values empty = refl
      rename-values (cons t ts) =
          let p : value I ρ (rename_term x y t) ≡ value I ρ' t = rename-value t in
          let q : values I ρ (rename_terms x y ts) ≡ values I ρ' ts = rename-values ts in
          cc

    rename-atom : (a : Atom) → atom_true I ρ (rename_atom x y a) ≡ atom_true I ρ' a
    rename-atom (equal t u) =
        ap (λ (n : ℕ). eqb n (value I ρ (rename_term x y u))) (rename-value t) ∙ ap (λ (n : ℕ). eqb (value I ρ' t) n) (rename-value u)
    rename-atom (holds p ts) = ap (I.relation p) (rename-values ts)

    rename-clause : (c : Clause) → clause_true I ρ (map (rename_literal x y) c) ≡ clause_true I ρ' c
    rename-clause [] = refl
    rename-clause (l ∷ c) =
        ap (λ (b : Bool). beq l.sign b || clause_true I ρ (map (rename_literal x y) c)) (rename-atom l.atom)
        ∙ ap (λ (b : Bool). literal_true I ρ' l || b) (rename-clause c)

  -- x ≠ y
  abbrev differ : Assignment → ℕ → ℕ → Bool
  differ ρ x y = beq false (eqb (ρ x) (ρ y))

  -- a negative equality of variables says that they differ
  unequal_variables-true : (ρ : Assignment) (b : Bool) (a : Atom) (p : ℕ × ℕ) → unequal_variables b a ≡ some p → beq b (atom_true I ρ a) ≡ differ ρ p.0 p.1
  unequal_variables-true ρ true a p e = cc
  unequal_variables-true ρ false (equal (variable x) (variable y)) p e =
      let z : ◌≡◌ {A = ℕ × ℕ} (x, y) p = some-injective (x, y) p e in
      ap (λ (q : ℕ × ℕ). differ ρ q.0 q.1) z
  unequal_variables-true ρ false (equal (variable x) (apply f ts)) p e = cc
  unequal_variables-true ρ false (equal (apply f ts) u) p e = cc
  unequal_variables-true ρ false (holds q ts) p e = cc

  or_swap : (a b c : Bool) → (a || (b || c)) ≡ (b || (a || c))
  or_swap true true c = refl
  or_swap true false c = refl
  or_swap false b c = refl

  -- a clause says: x and y differ, or the rest holds
  leftmost-true : (ρ : Assignment) (c : Clause) (r : Unequal) → leftmost c ≡ some r → clause_true I ρ c ≡ (differ ρ r.x r.y || clause_true I ρ r.rest)
  leftmost-true ρ [] r e = cc
  leftmost-true ρ (l ∷ c) r e = go (unequal_variables l.sign l.atom) refl (leftmost c) refl e (λ q h. leftmost-true ρ c q h)
    where
      go : (o : Option (ℕ × ℕ)) → unequal_variables l.sign l.atom ≡ o → (m : Option Unequal) → leftmost c ≡ m → leftmost_at l c o m ≡ some r
          → ((q : Unequal) → leftmost c ≡ some q → clause_true I ρ c ≡ (differ ρ q.x q.y || clause_true I ρ q.rest))
          → (literal_true I ρ l || clause_true I ρ c) ≡ (differ ρ r.x r.y || clause_true I ρ r.rest)
      go (some p) h m k z ih =
          ap (λ (b : Bool). b || clause_true I ρ c) (unequal_variables-true ρ l.sign l.atom p h)
          ∙ ap (λ (q : Unequal). differ ρ q.x q.y || clause_true I ρ q.rest) (some-injective (record { x = p.0; y = p.1; rest = c }) r z)
      go none h none k z ih = cc
      go none h (some q) k z ih =
          ap (λ (b : Bool). literal_true I ρ l || b) (ih q k)
          ∙ or_swap (literal_true I ρ l) (differ ρ q.x q.y) (clause_true I ρ q.rest)
          ∙ ap (λ (q : Unequal). differ ρ q.x q.y || clause_true I ρ q.rest) (some-injective (record { x = q.x; y = q.y; rest = l ∷ q.rest }) r z)

  -- looking up after renaming, where x and y have the same value
  rename-same : (ρ : Assignment) (x y : ℕ) → ρ x ≡ ρ y → (z : ℕ) → ρ (rename x y z) ≡ ρ z
  rename-same ρ x y e z = go (eqb z y) refl
    where
      go : (b : Bool) → eqb z y ≡ b → ρ (cond b x z) ≡ ρ z
      go true h = e ∙ ap ρ (sym (eqb-true z y h))
      go false h = refl

  rename-first : (x y : ℕ) → rename x y x ≡ x
  rename-first x y = go (eqb x y)
    where
      go : (b : Bool) → cond b x x ≡ x
      go true = refl
      go false = refl

  rename-second : (x y : ℕ) → rename x y y ≡ x
  rename-second x y = ap (λ (b : Bool). cond b x y) (eqb_same y)

  module _ (s : ℕ) where
    -- one round keeps validity
    round→ : (c : Clause) (r : Unequal) → leftmost c ≡ some r → Valid I s c → Valid I s (map (rename_literal r.x r.y) r.rest)
    round→ c r e h ρ b =
        let ρ₁ : Assignment = ρ' ρ r.x r.y in
        let k : (differ ρ₁ r.x r.y || clause_true I ρ₁ r.rest) ≡ true =
        sym (leftmost-true ρ₁ c r e) ∙ h ρ₁ (λ z. b (rename r.x r.y z)) in
        let same : ρ₁ r.x ≡ ρ₁ r.y = ap ρ (rename-first r.x r.y ∙ sym (rename-second r.x r.y)) in
        let d : differ ρ₁ r.x r.y ≡ false = ap (beq false) (eqb-of-≡ (ρ₁ r.x) (ρ₁ r.y) same) in
        rename-clause ρ r.x r.y r.rest ∙ ap (λ (q : Bool). q || clause_true I ρ₁ r.rest) (sym d) ∙ k

    round← : (c : Clause) (r : Unequal) → leftmost c ≡ some r → Valid I s (map (rename_literal r.x r.y) r.rest) → Valid I s c
    round← c r e h ρ b = leftmost-true ρ c r e ∙ go (eqb (ρ r.x) (ρ r.y)) refl
      where
        go : (q : Bool) → eqb (ρ r.x) (ρ r.y) ≡ q → (beq false q || clause_true I ρ r.rest) ≡ true
        go false k = refl
        go true k =
            let same : ρ' ρ r.x r.y ≡ ρ = fun_ext (rename-same ρ r.x r.y (eqb-true (ρ r.x) (ρ r.y) k)) in
            ap (λ (τ : Assignment). clause_true I τ r.rest) (sym same) ∙ sym (rename-clause ρ r.x r.y r.rest) ∙ h ρ b

    merge→ : (n : ℕ) (c : Clause) → Valid I s c → Valid I s (merge n c)
    merge→ zero c h = h
    merge→ (suc n) c h = go (leftmost c) refl (λ d k. merge→ n d k)
      where
        go : (o : Option Unequal) → leftmost c ≡ o → ((d : Clause) → Valid I s d → Valid I s (merge n d)) → Valid I s (merge_found (merge n) c o)
        go none e ih = h
        go (some r) e ih = ih (map (rename_literal r.x r.y) r.rest) (round→ c r e h)

    merge← : (n : ℕ) (c : Clause) → Valid I s (merge n c) → Valid I s c
    merge← zero c h = h
    merge← (suc n) c h = go (leftmost c) refl (λ d k. merge← n d k) h
      where
        go : (o : Option Unequal) → leftmost c ≡ o → ((d : Clause) → Valid I s (merge n d) → Valid I s d) → Valid I s (merge_found (merge n) c o) → Valid I s c
        go none e ih k = k
        go (some r) e ih k = round← c r e (ih (map (rename_literal r.x r.y) r.rest) k)

    -- a clause is valid exactly if it is after step 1
    pub merged→ : (c : Clause) → Valid I s c → Valid I s (merged c)
    unfolding merged
    merged→ c = merge→ (length c) c

    pub merged← : (c : Clause) → Valid I s (merged c) → Valid I s c
    unfolding merged
    merged← c = merge← (length c) c

-- each round takes a literal away
pub leftmost-length : (c : Clause) (r : Unequal) → leftmost c ≡ some r → suc (length r.rest) ≡ length c
leftmost-length [] r e = let q : ◌≡◌ {A = ℕ} 0 1 = cc in absurd (omega arith)
leftmost-length (l ∷ c) r e = go (unequal_variables l.sign l.atom) (leftmost c) refl e (λ q h. leftmost-length c q h)
  where
    go : (o : Option (ℕ × ℕ)) (m : Option Unequal) → leftmost c ≡ m → leftmost_at l c o m ≡ some r
        → ((q : Unequal) → leftmost c ≡ some q → suc (length q.rest) ≡ length c) → suc (length r.rest) ≡ suc (length c)
    go (some p) m k z ih = ap (λ (q : Unequal). suc (length q.rest)) (sym (some-injective (record { x = p.0; y = p.1; rest = c }) r z))
    go none none k z ih = let q : ◌≡◌ {A = ℕ} 0 1 = cc in absurd (omega arith)
    go none (some q) k z ih = ap (λ (q : Unequal). suc (length q.rest)) (sym (some-injective (record { x = q.x; y = q.y; rest = l ∷ q.rest }) r z)) ∙ ap suc (ih q k)

merge_none : (n : ℕ) (c : Clause) → length c ≤ n → leftmost (merge n c) ≡ none
merge_none zero [] h = refl
merge_none zero (l ∷ c) h = absurd (omega arith)
merge_none (suc n) c h = go (leftmost c) refl (λ d k. merge_none n d k)
  where
    go : (o : Option Unequal) → leftmost c ≡ o → ((d : Clause) → length d ≤ n → leftmost (merge n d) ≡ none) → leftmost (merge_found (merge n) c o) ≡ none
    go none e ih = e
    go (some r) e ih =
        ih (map (rename_literal r.x r.y) r.rest) (omega (arith, length-map r.rest (rename_literal r.x r.y), leftmost-length c r e))

-- step 1 leaves no negative equality of two variables
pub none_left : (c : Clause) → leftmost (merged c) ≡ none
unfolding merged
none_left c = merge_none (length c) c (le_refl (length c))

-- renaming keeps the number of terms
rename-count : (x y : ℕ) (ts : Terms) → count (rename_terms x y ts) ≡ count ts
rename-count x y empty = refl
rename-count x y (cons t ts) = ap suc (rename-count x y ts)

module _ (g : Signature) where
  mutual
    rename-term : (x y : ℕ) (t : Term) → term_ok g (rename_term x y t) ≡ term_ok g t
    rename-term x y (variable z) = refl
    rename-term x y (apply f ts) =
        ap (λ (n : ℕ). function_of g f n && terms_ok g (rename_terms x y ts)) (rename-count x y ts)
        ∙ ap (λ (b : Bool). function_of g f (count ts) && b) (rename-terms x y ts)

    rename-terms : (x y : ℕ) (ts : Terms) → terms_ok g (rename_terms x y ts) ≡ terms_ok g ts
    rename-terms x y empty = refl
    rename-terms x y (cons t ts) =
        ap (λ (b : Bool). b && terms_ok g (rename_terms x y ts)) (rename-term x y t) ∙ ap (λ (b : Bool). term_ok g t && b) (rename-terms x y ts)

  rename-atom_ok : (x y : ℕ) (a : Atom) → atom_ok g (rename_atom x y a) ≡ atom_ok g a
  rename-atom_ok x y (equal t u) =
      ap (λ (b : Bool). b && term_ok g (rename_term x y u)) (rename-term x y t) ∙ ap (λ (b : Bool). term_ok g t && b) (rename-term x y u)
  rename-atom_ok x y (holds p ts) =
      ap (λ (n : ℕ). predicate_of g p n && terms_ok g (rename_terms x y ts)) (rename-count x y ts)
      ∙ ap (λ (b : Bool). predicate_of g p (count ts) && b) (rename-terms x y ts)

  pub rename-clause_ok : (x y : ℕ) (c : Clause) → clause_ok g (map (rename_literal x y) c) ≡ clause_ok g c
  rename-clause_ok x y [] = refl
  rename-clause_ok x y (l ∷ c) =
      ap (λ (b : Bool). b && clause_ok g (map (rename_literal x y) c)) (rename-atom_ok x y l.atom)
      ∙ ap (λ (b : Bool). atom_ok g l.atom && b) (rename-clause_ok x y c)

  pub leftmost-ok : (c : Clause) (r : Unequal) → leftmost c ≡ some r → clause_ok g c ≡ true → clause_ok g r.rest ≡ true
  leftmost-ok [] r e h = cc
  leftmost-ok (l ∷ c) r e h = go (unequal_variables l.sign l.atom) (leftmost c) refl e (λ q k. leftmost-ok c q k (and_right (atom_ok g l.atom) (clause_ok g c) h))
    where
      go : (o : Option (ℕ × ℕ)) (m : Option Unequal) → leftmost c ≡ m → leftmost_at l c o m ≡ some r
          → ((q : Unequal) → leftmost c ≡ some q → clause_ok g q.rest ≡ true) → clause_ok g r.rest ≡ true
      go (some p) m k z ih =
          ap (λ (q : Unequal). clause_ok g q.rest) (sym (some-injective (record { x = p.0; y = p.1; rest = c }) r z))
          ∙ and_right (atom_ok g l.atom) (clause_ok g c) h
      go none none k z ih = cc
      go none (some q) k z ih =
          ap (λ (q : Unequal). clause_ok g q.rest) (sym (some-injective (record { x = q.x; y = q.y; rest = l ∷ q.rest }) r z))
          ∙ and-join (atom_ok g l.atom) (clause_ok g q.rest) (and_left (atom_ok g l.atom) (clause_ok g c) h) (ih q k)

  merge-ok : (n : ℕ) (c : Clause) → clause_ok g c ≡ true → clause_ok g (merge n c) ≡ true
  merge-ok zero c h = h
  merge-ok (suc n) c h = go (leftmost c) refl (λ d k. merge-ok n d k)
    where
      go : (o : Option Unequal) → leftmost c ≡ o → ((d : Clause) → clause_ok g d ≡ true → clause_ok g (merge n d) ≡ true) → clause_ok g (merge_found (merge n) c o) ≡ true
      go none e ih = h
      go (some r) e ih = ih (map (rename_literal r.x r.y) r.rest) (rename-clause_ok r.x r.y r.rest ∙ leftmost-ok c r e h)

  -- step 1 keeps a clause over the signature
  pub merged-ok : (c : Clause) → clause_ok g c ≡ true → clause_ok g (merged c) ≡ true
  unfolding merged
  merged-ok c = merge-ok (length c) c

-- one round of step 1, and its end
pub merged-round : (c : Clause) (r : Unequal) → leftmost c ≡ some r → merged c ≡ merged (map (rename_literal r.x r.y) r.rest)
unfolding merged
merged-round c r e =
    let n : suc (length (map (rename_literal r.x r.y) r.rest)) ≡ length c = ap suc (length-map r.rest (rename_literal r.x r.y)) ∙ leftmost-length c r e in
    ap (λ (n : ℕ). merge n c) (sym n) ∙ ap (merge_found (merge (length (map (rename_literal r.x r.y) r.rest))) c) e

pub merged-end : (c : Clause) → leftmost c ≡ none → merged c ≡ c
unfolding merged
merged-end c e = go (length c)
  where
    go : (n : ℕ) → merge n c ≡ c
    go zero = refl
    go (suc n) = ap (merge_found (merge n) c) e
