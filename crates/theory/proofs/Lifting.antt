-- Lifting, step 2: where each new variable has the value of its term, the shallow literals say what the clause says.
use Prim.Native.Nat.{ℕ, zero, suc, ◌+◌, ◌<◌}
use mathlib.Core.Path.{◌≡◌, refl, sym, ap, ◌∙◌, subst}
use mathlib.Core.Bool.{Bool, true, false, ◌||◌, beq}
use mathlib.Core.List.{List, [], ◌∷◌, map}
use native.Mathlib.Nat.{add-zero, zero-add}
use native.Mathlib.Omega.{arith}
use lib.Dec.{eqb}
use lib.ListN.{length, get_or}
use Rattle.theory.specs.Lists.{all}
use Rattle.theory.specs.Syntax.{Term, variable, apply, Terms, empty, cons, Atom, equal, holds, Literal, Clause}
use Rattle.theory.specs.Truth.{Interpretation, Assignment, value, values, atom_true, literal_true, clause_true}
use Rattle.theory.specs.Flattening.{turned_atom, turned, FlatVariable, own, new, variable_for, variables_for, term_equals, shallow_atom, shallow, definitions}
use Rattle.theory.specs.Lifted.{covered, covered_all, covered_atom}
use Rattle.theory.specs.Claims.Flattening.{flat_atom_true, flat_true}
use Rattle.theory.proofs.Tests.{eqb-true, eqb-of-≡, eqb-sym, and_left, and_right, or-false-left, or-false-right, or-false-join, beq-false, of-beq-false}
use Rattle.theory.proofs.Lists.{all-at}
use Rattle.theory.proofs.LiftedTerms.{Place, place, variable_for-place, covered-arguments, covered-among, covered-first, covered-rest, covered-left, covered-right}

module _ (I : Interpretation) (ν : FlatVariable → ℕ) (lifted : List Term) where
  -- the values of the clause's own variables
  abbrev pub owned : Assignment
  owned x = ν (own x)

  -- a new variable has the value of its term, if the variables of the term's arguments have theirs
  abbrev pub Placed : Type 0
  Placed = (f : ℕ) (ts : Terms) (q : Place lifted (apply f ts)) → map ν (variables_for lifted ts) ≡ values I owned ts → ν (new q.at) ≡ value I owned (apply f ts)

  module _ (placed : Placed) where
    -- then every variable has the value of the term that it stands for
    mutual
      pub variable_for-value : (t : Term) → covered lifted t ≡ true → ν (variable_for lifted t) ≡ value I owned t
      variable_for-value (variable x) k = refl
      variable_for-value (apply f ts) k =
          let q = place lifted (apply f ts) (covered-among lifted f ts k) in
          ap ν (variable_for-place lifted f ts q) ∙ placed f ts q (variables_for-values ts (covered-arguments lifted f ts k))

      pub variables_for-values : (ts : Terms) → covered_all lifted ts ≡ true → map ν (variables_for lifted ts) ≡ values I owned ts
      variables_for-values empty k = refl
      variables_for-values (cons t ts) k =
          let p : ν (variable_for lifted t) ≡ value I owned t = variable_for-value t (covered-first lifted t ts k) in
          let q : map ν (variables_for lifted ts) ≡ values I owned ts = variables_for-values ts (covered-rest lifted t ts k) in
          cc

    result-true : (f : ℕ) (ts : Terms) (y : FlatVariable) → covered_all lifted ts ≡ true → flat_atom_true I ν (term_equals lifted (apply f ts) y) ≡ eqb (value I owned (apply f ts)) (ν y)
    result-true f ts y k = ap (λ (v : List ℕ). eqb (I.function f v) (ν y)) (variables_for-values ts k)

    -- a shallow atom says what the atom says
    shallow_atom-true : (a : Atom) → covered_atom lifted (turned_atom a) ≡ true → flat_atom_true I ν (shallow_atom lifted (turned_atom a)) ≡ atom_true I owned a
    shallow_atom-true (equal (variable x) (variable y)) k = refl
    shallow_atom-true (equal (variable x) (apply f ts)) k =
        result-true f ts (own x) (covered-left lifted f ts (variable x) k) ∙ eqb-sym (value I owned (apply f ts)) (owned x)
    shallow_atom-true (equal (apply f ts) u) k =
        result-true f ts (variable_for lifted u) (covered-left lifted f ts u k)
        ∙ ap (λ (n : ℕ). eqb (value I owned (apply f ts)) n) (variable_for-value u (covered-right lifted f ts u k))
    shallow_atom-true (holds p ts) k = ap (I.relation p) (variables_for-values ts k)

    -- the shallow literals say what the clause says
    pub shallow-true : (c : Clause) → all (λ (l : Literal). covered_atom lifted (turned_atom l.atom)) c ≡ true
        → flat_true I ν (map (shallow lifted) (map turned c)) ≡ clause_true I owned c
    shallow-true [] k = refl
    shallow-true (l ∷ c) k =
        let b : Bool = all (λ (l : Literal). covered_atom lifted (turned_atom l.atom)) c in
        let a : Bool = covered_atom lifted (turned_atom l.atom) in
        ap (λ (q : Bool). beq l.sign q || flat_true I ν (map (shallow lifted) (map turned c))) (shallow_atom-true l.atom (and_left a b k))
        ∙ ap (λ (q : Bool). literal_true I owned l || q) (shallow-true c (and_right a b k))

    -- t = y holds where y has the value of t
    pub term_equals-true : (t : Term) (y : FlatVariable) → covered lifted t ≡ true → ν y ≡ value I owned t → flat_atom_true I ν (term_equals lifted t y) ≡ true
    term_equals-true (variable x) y k e = eqb-of-≡ (owned x) (ν y) (sym e)
    term_equals-true (apply f ts) y k e = result-true f ts y (covered-arguments lifted f ts k) ∙ eqb-of-≡ (value I owned (apply f ts)) (ν y) (sym e)

  -- each of the terms ts equals its new variable, counted from i
  abbrev pub Defined : ℕ → List Term → Type 0
  Defined i ts = (j : ℕ) → j < length ts → flat_atom_true I ν (term_equals lifted (get_or ts j (variable 0)) (new (i + j))) ≡ true

  -- the literals t ≠ y are all false exactly if so
  pub false→defined : (i : ℕ) (ts : List Term) → flat_true I ν (definitions lifted i ts) ≡ false → Defined i ts
  false→defined i [] h j l = absurd (omega arith)
  false→defined i (t ∷ ts) h zero l =
      let b : Bool = flat_atom_true I ν (term_equals lifted t (new i)) in
      ap (λ (n : ℕ). flat_atom_true I ν (term_equals lifted t (new n))) (add-zero i)
      ∙ of-beq-false b (or-false-left (beq false b) (flat_true I ν (definitions lifted (suc i) ts)) h)
  false→defined i (t ∷ ts) h (suc j) l =
      let b : Bool = flat_atom_true I ν (term_equals lifted t (new i)) in
      let e : i + suc j ≡ suc i + j = omega arith in
      ap (λ (n : ℕ). flat_atom_true I ν (term_equals lifted (get_or ts j (variable 0)) (new n))) e
      ∙ false→defined (suc i) ts (or-false-right (beq false b) (flat_true I ν (definitions lifted (suc i) ts)) h) j (omega arith)

  pub defined→false : (i : ℕ) (ts : List Term) → Defined i ts → flat_true I ν (definitions lifted i ts) ≡ false
  defined→false i [] d = refl
  defined→false i (t ∷ ts) d =
      let b : Bool = flat_atom_true I ν (term_equals lifted t (new i)) in
      let e : (j : ℕ) → suc i + j ≡ i + suc j = λ j. omega arith in
      let h : b ≡ true = ap (λ (n : ℕ). flat_atom_true I ν (term_equals lifted t (new n))) (sym (add-zero i)) ∙ d 0 (omega arith) in
      or-false-join (beq false b) (flat_true I ν (definitions lifted (suc i) ts)) (beq-false b h)
      (defined→false (suc i) ts (λ j l. ap (λ (n : ℕ). flat_atom_true I ν (term_equals lifted (get_or ts j (variable 0)) (new n))) (e j) ∙ d (suc j) (omega arith)))

  -- the lifted terms are defined: each new variable has the value of its term
  pub defined→placed : Defined 0 lifted → Placed
  defined→placed d f ts q e =
      let k : flat_atom_true I ν (term_equals lifted (get_or lifted q.at (variable 0)) (new (0 + q.at))) ≡ true = d q.at q.below in
      let k₁ : flat_atom_true I ν (term_equals lifted (apply f ts) (new (0 + q.at))) ≡ true =
      subst (λ (t : Term). flat_atom_true I ν (term_equals lifted t (new (0 + q.at))) ≡ true) q.there k in
      let k₂ : I.function f (map ν (variables_for lifted ts)) ≡ ν (new (0 + q.at)) = eqb-true (I.function f (map ν (variables_for lifted ts))) (ν (new (0 + q.at))) k₁ in
      ap (λ (n : ℕ). ν (new n)) (sym (zero-add q.at)) ∙ sym k₂ ∙ ap (I.function f) e

  -- each new variable has the value of its term
  abbrev pub Valued : Type 0
  Valued = (i : ℕ) → i < length lifted → ν (new i) ≡ value I owned (get_or lifted i (variable 0))

  pub valued→placed : Valued → Placed
  valued→placed h f ts q e = h q.at q.below ∙ ap (value I owned) q.there

  pub valued→defined : all (covered lifted) lifted ≡ true → Valued → Defined 0 lifted
  valued→defined k h j l =
      ap (λ (n : ℕ). flat_atom_true I ν (term_equals lifted (get_or lifted j (variable 0)) (new n))) (zero-add j)
      ∙ term_equals-true (valued→placed h) (get_or lifted j (variable 0)) (new j) (all-at (covered lifted) (variable 0) lifted j k l) (h j l)
