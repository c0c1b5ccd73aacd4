-- What flattening keeps, as tests: which terms are lifted, that they are different, and that shallow literals are over a signature and over the clause's variables.
use Rattle.std.specs.Prelude.{ℕ, Bool, true, false, not, ◌&&◌, List, [], ◌∷◌, ltb, length}
use Rattle.theory.specs.Lists.{any, all, elem}
use Rattle.theory.specs.Syntax.{Signature, function_of, predicate_of, Term, variable, apply, Terms, Atom}
use Rattle.theory.specs.Flattening.{function_terms, all_function_terms, to_lift, same_term, FlatVariable, own, new, FlatAtom, flat_predicate, flat_result, flat_equality, FlatLiteral}

-- the term is among those of the list
abbrev pub among : List Term → Term → Bool
among ts t = any (same_term t) ts

-- the function terms of the term are among the lifted ones
abbrev pub covered : List Term → Term → Bool
covered lifted t = all (among lifted) (function_terms t)

-- those of the terms are
abbrev pub covered_all : List Term → Terms → Bool
covered_all lifted ts = all (among lifted) (all_function_terms ts)

-- those that are lifted from an atom are
abbrev pub covered_atom : List Term → Atom → Bool
covered_atom lifted a = all (among lifted) (to_lift a)

-- a function's term, not a variable
abbrev pub is_apply : Term → Bool
is_apply (variable x) = false
is_apply (apply f ts) = true

-- the terms are pairwise different
abbrev pub different : List Term → Bool
different [] = true
different (t ∷ ts) = not (among ts t) && different ts

-- every variable of the second list is in the first
abbrev pub within : List ℕ → List ℕ → Bool
within owns xs = all (λ x. elem x owns) xs

-- every symbol of a shallow atom is declared, and stands before as many variables as its arity
abbrev pub flat_atom_ok : Signature → FlatAtom → Bool
flat_atom_ok g (flat_predicate p xs) = predicate_of g p (length xs)
flat_atom_ok g (flat_result f xs y) = function_of g f (length xs)
flat_atom_ok g (flat_equality x y) = true

-- the same of a list of shallow literals
abbrev pub flat_ok : Signature → List FlatLiteral → Bool
flat_ok g ls = all (λ (l : FlatLiteral). flat_atom_ok g l.atom) ls

-- the variable is one of the own ones, or one of the n new ones
abbrev pub scoped : List ℕ → ℕ → FlatVariable → Bool
scoped owns n (own x) = elem x owns
scoped owns n (new i) = ltb i n

-- every variable of a shallow atom is
abbrev pub flat_atom_scoped : List ℕ → ℕ → FlatAtom → Bool
flat_atom_scoped owns n (flat_predicate p xs) = all (scoped owns n) xs
flat_atom_scoped owns n (flat_result f xs y) = all (scoped owns n) xs && scoped owns n y
flat_atom_scoped owns n (flat_equality x y) = scoped owns n x && scoped owns n y

-- the same of a list of shallow literals
abbrev pub flat_scoped : List ℕ → ℕ → List FlatLiteral → Bool
flat_scoped owns n ls = all (λ (l : FlatLiteral). flat_atom_scoped owns n l.atom) ls
