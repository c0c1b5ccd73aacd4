-- The terms that get a name in the mode of named terms (document 02, slip 9), and clauses with names in their place.
use Rattle.std.specs.Prelude.{ℕ, suc, ◌+◌, Bool, true, false, cond, ◌&&◌, List, [], ◌∷◌, ◌++◌, map}
use Rattle.theory.specs.Lists.{concat_map, place_that}
use Rattle.theory.specs.Syntax.{Term, variable, apply, Terms, empty, cons, Atom, equal, holds, Literal, Clause}
use Rattle.theory.specs.Flattening.{same_term, add_terms, place_or0}

-- a term without variables
abbrev mutual
  pub is_fixed : Term → Bool
  is_fixed (variable x) = false
  is_fixed (apply f ts) = are_fixed ts

  pub are_fixed : Terms → Bool
  are_fixed empty = true
  are_fixed (cons t ts) = is_fixed t && are_fixed ts

-- a term that can get a name: without variables, and no constant
abbrev pub is_nameable : Term → Bool
is_nameable (variable x) = false
is_nameable (apply f empty) = false
is_nameable (apply f (cons t ts)) = are_fixed (cons t ts)

-- the outermost such terms within a term, left to right
abbrev mutual
  pub term_named : Term → List Term
  term_named (variable x) = []
  term_named (apply f ts) = cond (is_nameable (apply f ts)) (apply f ts ∷ []) (terms_named ts)

  pub terms_named : Terms → List Term
  terms_named empty = []
  terms_named (cons t ts) = term_named t ++ terms_named ts

-- those of an atom, both sides of an equality included
abbrev pub atom_named : Atom → List Term
atom_named (equal t u) = term_named t ++ term_named u
atom_named (holds p ts) = terms_named ts

-- those of a clause, repeats included
abbrev pub clause_named : Clause → List Term
clause_named c = concat_map (λ (l : Literal). atom_named l.atom) c

-- the named terms of the clauses, equal ones once, in order of first appearance
unfoldable pub named_terms : List Clause → List Term
named_terms cs = add_terms [] (concat_map clause_named cs)

-- the constant that names a term: the constants stand at the places from n on, in the order of the terms
abbrev pub name_of : ℕ → List Term → Term → Term
name_of n named t = apply (n + place_or0 (place_that (same_term t) named)) empty

-- a term with its outermost nameable terms replaced by their names
abbrev mutual
  pub short_term : ℕ → List Term → Term → Term
  short_term n named (variable x) = variable x
  short_term n named (apply f ts) = cond (is_nameable (apply f ts)) (name_of n named (apply f ts)) (apply f (short_terms n named ts))

  pub short_terms : ℕ → List Term → Terms → Terms
  short_terms n named empty = empty
  short_terms n named (cons t ts) = cons (short_term n named t) (short_terms n named ts)

-- the same of an atom
abbrev pub short_atom : ℕ → List Term → Atom → Atom
short_atom n named (equal t u) = equal (short_term n named t) (short_term n named u)
short_atom n named (holds p ts) = holds p (short_terms n named ts)

-- the same of a literal
abbrev pub short_literal : ℕ → List Term → Literal → Literal
short_literal n named l = record { sign = l.sign; atom = short_atom n named l.atom }

-- the shortened clause
abbrev pub short_clause : ℕ → List Term → Clause → Clause
short_clause n named c = map (short_literal n named) c

-- a helper's own clause: + = constant term, for the constant at place i
abbrev pub helper_clause : ℕ → Term → Clause
helper_clause i t = record { sign = true; atom = equal (apply i empty) t } ∷ []

-- the helpers' own clauses, in order; the first helper stands at place i
abbrev pub helper_clauses : ℕ → List Term → List Clause
helper_clauses i [] = []
helper_clauses i (t ∷ ts) = helper_clause i t ∷ helper_clauses (suc i) ts

-- the clauses that the mode has, where n symbols are declared: the helpers' own, then the clauses shortened
unfoldable pub named_clauses : ℕ → List Clause → List Clause
named_clauses n cs = helper_clauses n (named_terms cs) ++ map (short_clause n (named_terms cs)) cs
