-- Flattening: from a clause to shallow literals, steps 1 and 2 of document 01.
use Rattle.std.specs.Prelude.{ℕ, zero, suc, ◌+◌, Bool, true, false, cond, ◌&&◌, List, [], ◌∷◌, ◌++◌, map, length, eqb}
use Rattle.std.proofs.Math.Option.{Option, none, some}
use Rattle.theory.specs.Lists.{any, concat_map, place_that}
use Rattle.theory.specs.Syntax.{Term, variable, apply, Terms, empty, cons, Atom, equal, holds, Literal, Clause, variables}

-- Step 1. Put x for y.
abbrev pub rename : ℕ → ℕ → ℕ → ℕ
rename x y z = cond (eqb z y) x z

-- put x for y in a term
abbrev mutual
  pub rename_term : ℕ → ℕ → Term → Term
  rename_term x y (variable z) = variable (rename x y z)
  rename_term x y (apply f ts) = apply f (rename_terms x y ts)

  pub rename_terms : ℕ → ℕ → Terms → Terms
  rename_terms x y empty = empty
  rename_terms x y (cons t ts) = cons (rename_term x y t) (rename_terms x y ts)

-- put x for y in an atom
abbrev pub rename_atom : ℕ → ℕ → Atom → Atom
rename_atom x y (equal t u) = equal (rename_term x y t) (rename_term x y u)
rename_atom x y (holds p ts) = holds p (rename_terms x y ts)

-- put x for y in a literal
abbrev pub rename_literal : ℕ → ℕ → Literal → Literal
rename_literal x y l = record { sign = l.sign; atom = rename_atom x y l.atom }

-- the two variables of a negative equality of variables
abbrev pub unequal_variables : Bool → Atom → Option (ℕ × ℕ)
unequal_variables false (equal (variable x) (variable y)) = some (x, y)
unequal_variables false (equal (variable x) (apply f ts)) = none
unequal_variables false (equal (apply f ts) u) = none
unequal_variables false (holds p ts) = none
unequal_variables true a = none

-- a negative equality of the variables x and y, and the clause without it
pub record Unequal : Type 0 where
  pub x : ℕ
  pub y : ℕ
  pub rest : Clause

-- the leftmost one: this literal, or else the one found among those after it
abbrev pub leftmost_at : Literal → Clause → Option (ℕ × ℕ) → Option Unequal → Option Unequal
leftmost_at l ls (some p) r = some (record { x = p.0; y = p.1; rest = ls })
leftmost_at l ls none (some r) = some (record { x = r.x; y = r.y; rest = l ∷ r.rest })
leftmost_at l ls none none = none

-- the leftmost negative equality of variables
abbrev pub leftmost : Clause → Option Unequal
leftmost [] = none
leftmost (l ∷ ls) = leftmost_at l ls (unequal_variables l.sign l.atom) (leftmost ls)

-- delete it, put its first variable for its second in the whole clause, and go on
abbrev pub merge_found : (Clause → Clause) → Clause → Option Unequal → Clause
merge_found go c none = c
merge_found go c (some r) = go (map (rename_literal r.x r.y) r.rest)

-- at most n rounds
abbrev pub merge : ℕ → Clause → Clause
merge zero c = c
merge (suc n) c = merge_found (merge n) c (leftmost c)

-- the clause after step 1: no more rounds than it has literals
unfoldable pub merged : Clause → Clause
merged c = merge (length c) c

-- Step 2. An equality with a function on one side only is turned so that it stands left.
abbrev pub turned_atom : Atom → Atom
turned_atom (equal (variable x) (variable y)) = equal (variable x) (variable y)
turned_atom (equal (variable x) (apply f ts)) = equal (apply f ts) (variable x)
turned_atom (equal (apply f ts) u) = equal (apply f ts) u
turned_atom (holds p ts) = holds p ts

-- a literal with its atom turned
abbrev pub turned : Literal → Literal
turned l = record { sign = l.sign; atom = turned_atom l.atom }

-- the function terms of a term, left to right, inner terms first, the term itself last
abbrev mutual
  pub function_terms : Term → List Term
  function_terms (variable x) = []
  function_terms (apply f ts) = all_function_terms ts ++ (apply f ts ∷ [])

  pub all_function_terms : Terms → List Term
  all_function_terms empty = []
  all_function_terms (cons t ts) = function_terms t ++ all_function_terms ts

-- the terms to lift from a turned atom: those that are arguments, and the right side; the left side's own outer term stays
abbrev pub to_lift : Atom → List Term
to_lift (equal (variable x) u) = []
to_lift (equal (apply f ts) u) = all_function_terms ts ++ function_terms u
to_lift (holds p ts) = all_function_terms ts

-- the two terms are equal: written alike
abbrev mutual
  pub same_term : Term → Term → Bool
  same_term (variable x) (variable y) = eqb x y
  same_term (variable x) (apply h us) = false
  same_term (apply f ts) (variable y) = false
  same_term (apply f ts) (apply h us) = eqb f h && same_terms ts us

  pub same_terms : Terms → Terms → Bool
  same_terms empty empty = true
  same_terms empty (cons u us) = false
  same_terms (cons t ts) empty = false
  same_terms (cons t ts) (cons u us) = same_term t u && same_terms ts us

-- a term after those found before, unless an equal one is among them
abbrev pub add_term : List Term → Term → List Term
add_term found t = cond (any (same_term t) found) found (found ++ (t ∷ []))

-- the terms after those found before, equal ones once, in order of first appearance
abbrev pub add_terms : List Term → List Term → List Term
add_terms found [] = found
add_terms found (t ∷ ts) = add_terms (add_term found t) ts

-- the lifted terms of a clause of turned literals
unfoldable pub lifted_terms : Clause → List Term
lifted_terms c = add_terms [] (concat_map (λ (l : Literal). to_lift l.atom) c)

-- a variable of a flattened clause: one of the clause's own, or the new one of the i-th lifted term
pub data FlatVariable : Type 0 where
  own : ℕ → FlatVariable
  new : ℕ → FlatVariable

-- the place that was found
abbrev pub place_or0 : Option ℕ → ℕ
place_or0 none = 0
place_or0 (some i) = i

-- the variable that stands for a term, among the lifted terms: equal terms share one
abbrev pub variable_for : List Term → Term → FlatVariable
variable_for lifted (variable x) = own x
variable_for lifted (apply f ts) = new (place_or0 (place_that (same_term (apply f ts)) lifted))

-- the variables that stand for the terms
abbrev pub variables_for : List Term → Terms → List FlatVariable
variables_for lifted empty = []
variables_for lifted (cons t ts) = variable_for lifted t ∷ variables_for lifted ts

-- the three shallow shapes (000, Definition 1): a predicate at variables, a function's result, an equality of variables
pub data FlatAtom : Type 0 where
  flat_predicate : ℕ → List FlatVariable → FlatAtom
  flat_result : ℕ → List FlatVariable → FlatVariable → FlatAtom
  flat_equality : FlatVariable → FlatVariable → FlatAtom

-- a shallow literal
pub record FlatLiteral : Type 0 where
  pub sign : Bool
  pub atom : FlatAtom

-- t = y, for a term t and a variable y
abbrev pub term_equals : List Term → Term → FlatVariable → FlatAtom
term_equals lifted (variable x) y = flat_equality (own x) y
term_equals lifted (apply f ts) y = flat_result f (variables_for lifted ts) y

-- a turned atom with variables for the terms that were lifted
abbrev pub shallow_atom : List Term → Atom → FlatAtom
shallow_atom lifted (equal t u) = term_equals lifted t (variable_for lifted u)
shallow_atom lifted (holds p ts) = flat_predicate p (variables_for lifted ts)

-- the same of a literal
abbrev pub shallow : List Term → Literal → FlatLiteral
shallow lifted l = record { sign = l.sign; atom = shallow_atom lifted l.atom }

-- t ≠ y for each lifted term t and its new variable y, counted from i, in order
abbrev pub definitions : List Term → ℕ → List Term → List FlatLiteral
definitions lifted i [] = []
definitions lifted i (t ∷ ts) = record { sign = false; atom = term_equals lifted t (new i) } ∷ definitions lifted (suc i) ts

-- a flattened clause: its own variables in order, the number of new ones, its literals
pub record FlatClause : Type 0 where
  pub owns : List ℕ
  pub news : ℕ
  pub literals : List FlatLiteral

-- the clause after steps 1 and 2; its own variables are ordered as they stand after step 1
unfoldable pub flatten : Clause → FlatClause
flatten c =
    let m = map turned (merged c) in
    let lifted = lifted_terms m in
    record { owns = variables (merged c); news = length lifted; literals = definitions lifted 0 lifted ++ map (shallow lifted) m }

-- k: the number of variables of a flattened clause
unfoldable pub variable_count : FlatClause → ℕ
variable_count c = length c.owns + c.news
