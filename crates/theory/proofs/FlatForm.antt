-- Flattened clauses are well formed: every symbol stands at its arity, every variable is one of the clause's own or one of its new ones.
use Prim.Native.Nat.{ℕ, suc, ◌+◌, ◌<◌}
use mathlib.Core.Path.{◌≡◌, refl, sym, ap, ◌∙◌}
use mathlib.Core.Bool.{Bool, true, ◌&&◌}
use mathlib.Core.List.{List, [], ◌∷◌, ◌++◌, map}
use native.Mathlib.Nat.{zero-add}
use native.Mathlib.Omega.{arith}
use lib.Dec.{ltb}
use lib.ListN.{length}
use Rattle.theory.specs.Lists.{all, concat_map, elem, distinct}
use Rattle.theory.specs.Syntax.{Term, variable, apply, Terms, empty, cons, Atom, equal, holds, Literal, Clause, Signature, term_variables, terms_variables, atom_variables, variables, count, function_of, predicate_of, term_ok, terms_ok, atom_ok, clause_ok}
use Rattle.theory.specs.Flattening.{merged, turned_atom, turned, to_lift, lifted_terms, FlatVariable, own, new, variable_for, variables_for, FlatAtom, flat_result, FlatLiteral, term_equals, shallow_atom, shallow, definitions, flatten}
use Rattle.theory.specs.Lifted.{covered, covered_all, covered_atom, within, flat_atom_ok, flat_ok, scoped, flat_atom_scoped, flat_scoped}
use Rattle.theory.proofs.Tests.{and_left, and_right, and-join, ltb-of-<}
use Rattle.theory.proofs.Lists.{all_append, all-imply, all-and, all_map, all-concat_map, elem-all, elem-distinct}
use Rattle.theory.proofs.Merging.{merged-ok}
use Rattle.theory.proofs.LiftedTerms.{Sources, to_lift-all, place, variable_for-place, covered-arguments, covered-among, covered-first, covered-rest, covered-left, covered-right, lifted_terms-all, lifted_terms-turned, lifted_terms-covered}

-- one variable stands for each term
pub length-variables_for : (lifted : List Term) (ts : Terms) → length (variables_for lifted ts) ≡ count ts
length-variables_for lifted empty = refl
length-variables_for lifted (cons t ts) = ap suc (length-variables_for lifted ts)

module _ (g : Signature) where
  term_ok-arguments : (f : ℕ) (ts : Terms) → term_ok g (apply f ts) ≡ true → terms_ok g ts ≡ true
  term_ok-arguments f ts h = and_right (function_of g f (count ts)) (terms_ok g ts) h

  terms_ok-first : (t : Term) (ts : Terms) → terms_ok g (cons t ts) ≡ true → term_ok g t ≡ true
  terms_ok-first t ts h = and_left (term_ok g t) (terms_ok g ts) h

  terms_ok-rest : (t : Term) (ts : Terms) → terms_ok g (cons t ts) ≡ true → terms_ok g ts ≡ true
  terms_ok-rest t ts h = and_right (term_ok g t) (terms_ok g ts) h

  -- turning keeps an atom over the signature
  turned_atom-ok : (a : Atom) → atom_ok g a ≡ true → atom_ok g (turned_atom a) ≡ true
  turned_atom-ok (equal (variable x) (variable y)) h = h
  turned_atom-ok (equal (variable x) (apply f ts)) h = and-join (term_ok g (apply f ts)) true h refl
  turned_atom-ok (equal (apply f ts) u) h = h
  turned_atom-ok (holds p ts) h = h

  pub turned-ok : (c : Clause) → clause_ok g c ≡ true → clause_ok g (map turned c) ≡ true
  turned-ok c h =
      all_map (λ (l : Literal). atom_ok g l.atom) turned c
      ∙ all-imply (λ (l : Literal). atom_ok g l.atom) (λ (l : Literal). atom_ok g (turned_atom l.atom)) c (λ l. turned_atom-ok l.atom) h

  atom_ok-sources : (a : Atom) → atom_ok g a ≡ true → Sources (term_ok g) (terms_ok g) a
  atom_ok-sources (equal (variable x) u) h = tt
  atom_ok-sources (equal (apply f ts) u) h = (term_ok-arguments f ts (and_left (term_ok g (apply f ts)) (term_ok g u) h), and_right (term_ok g (apply f ts)) (term_ok g u) h)
  atom_ok-sources (holds p ts) h = and_right (predicate_of g p (count ts)) (terms_ok g ts) h

  -- the lifted terms of a clause over the signature are over it
  pub lifted_terms-ok : (c : Clause) → clause_ok g c ≡ true → all (term_ok g) (lifted_terms c) ≡ true
  lifted_terms-ok c h =
      lifted_terms-all (term_ok g) c
      (all-imply (λ (l : Literal). atom_ok g l.atom) (λ (l : Literal). all (term_ok g) (to_lift l.atom)) c
      (λ l k. to_lift-all (term_ok g) (terms_ok g) term_ok-arguments terms_ok-first terms_ok-rest l.atom (atom_ok-sources l.atom k)) h)

  module _ (lifted : List Term) where
    term_equals-ok : (t : Term) (y : FlatVariable) → term_ok g t ≡ true → flat_atom_ok g (term_equals lifted t y) ≡ true
    term_equals-ok (variable x) y h = refl
    term_equals-ok (apply f ts) y h = ap (function_of g f) (length-variables_for lifted ts) ∙ and_left (function_of g f (count ts)) (terms_ok g ts) h

    shallow_atom-ok : (a : Atom) → atom_ok g a ≡ true → flat_atom_ok g (shallow_atom lifted a) ≡ true
    shallow_atom-ok (equal t u) h = term_equals-ok t (variable_for lifted u) (and_left (term_ok g t) (term_ok g u) h)
    shallow_atom-ok (holds p ts) h = ap (predicate_of g p) (length-variables_for lifted ts) ∙ and_left (predicate_of g p (count ts)) (terms_ok g ts) h

    shallow-ok : (c : Clause) → clause_ok g c ≡ true → flat_ok g (map (shallow lifted) c) ≡ true
    shallow-ok c h =
        all_map (λ (l : FlatLiteral). flat_atom_ok g l.atom) (shallow lifted) c
        ∙ all-imply (λ (l : Literal). atom_ok g l.atom) (λ (l : Literal). flat_atom_ok g (shallow_atom lifted l.atom)) c (λ l. shallow_atom-ok l.atom) h

    definitions-ok : (i : ℕ) (ts : List Term) → all (term_ok g) ts ≡ true → flat_ok g (definitions lifted i ts) ≡ true
    definitions-ok i [] h = refl
    definitions-ok i (t ∷ ts) h =
        and-join (flat_atom_ok g (term_equals lifted t (new i))) (flat_ok g (definitions lifted (suc i) ts))
        (term_equals-ok t (new i) (and_left (term_ok g t) (all (term_ok g) ts) h)) (definitions-ok (suc i) ts (and_right (term_ok g t) (all (term_ok g) ts) h))

  -- the flattened clause of a clause over the signature is over it
  pub flatten-ok : (c : Clause) → clause_ok g c ≡ true → flat_ok g (flatten c).literals ≡ true
  unfolding flatten
  flatten-ok c h =
      let m : Clause = map turned (merged c) in
      let lifted : List Term = lifted_terms m in
      let k : clause_ok g m ≡ true = turned-ok (merged c) (merged-ok g c h) in
      all_append (λ (l : FlatLiteral). flat_atom_ok g l.atom) (definitions lifted 0 lifted) (map (shallow lifted) m)
      ∙ and-join (flat_ok g (definitions lifted 0 lifted)) (flat_ok g (map (shallow lifted) m)) (definitions-ok lifted 0 lifted (lifted_terms-ok m k)) (shallow-ok lifted m k)

module _ (owns : List ℕ) where
  pub within-left : (xs ys : List ℕ) → within owns (xs ++ ys) ≡ true → within owns xs ≡ true
  within-left xs ys h = and_left (within owns xs) (within owns ys) (sym (all_append (λ x. elem x owns) xs ys) ∙ h)

  pub within-right : (xs ys : List ℕ) → within owns (xs ++ ys) ≡ true → within owns ys ≡ true
  within-right xs ys h = and_right (within owns xs) (within owns ys) (sym (all_append (λ x. elem x owns) xs ys) ∙ h)

  turned_atom-within : (a : Atom) → within owns (atom_variables a) ≡ true → within owns (atom_variables (turned_atom a)) ≡ true
  turned_atom-within (equal (variable x) (variable y)) h = h
  turned_atom-within (equal (variable x) (apply f ts)) h =
      let xs : List ℕ = terms_variables ts in
      all_append (λ x. elem x owns) xs (x ∷ [])
      ∙ and-join (within owns xs) (elem x owns && true) (and_right (elem x owns) (within owns xs) h) (and-join (elem x owns) true (and_left (elem x owns) (within owns xs) h) refl)
  turned_atom-within (equal (apply f ts) u) h = h
  turned_atom-within (holds p ts) h = h

  atom-sources : (a : Atom) → within owns (atom_variables a) ≡ true → Sources (λ t. within owns (term_variables t)) (λ ts. within owns (terms_variables ts)) a
  atom-sources (equal (variable x) u) h = tt
  atom-sources (equal (apply f ts) u) h = (within-left (terms_variables ts) (term_variables u) h, within-right (terms_variables ts) (term_variables u) h)
  atom-sources (holds p ts) h = h

  -- the variables of the lifted terms are variables of the clause
  lifted_terms-within : (c : Clause) → all (λ (l : Literal). within owns (atom_variables l.atom)) c ≡ true → all (λ t. within owns (term_variables t)) (lifted_terms c) ≡ true
  lifted_terms-within c h =
      lifted_terms-all (λ t. within owns (term_variables t)) c
      (all-imply (λ (l : Literal). within owns (atom_variables l.atom)) (λ (l : Literal). all (λ t. within owns (term_variables t)) (to_lift l.atom)) c
      (λ l k.
      to_lift-all (λ t. within owns (term_variables t)) (λ ts. within owns (terms_variables ts)) (λ f ts e. e)
      (λ t ts. within-left (term_variables t) (terms_variables ts)) (λ t ts. within-right (term_variables t) (terms_variables ts)) l.atom (atom-sources l.atom k)) h)

  module _ (lifted : List Term) where
    abbrev in_scope : FlatVariable → Bool
    in_scope x = scoped owns (length lifted) x

    variable_for-scoped : (t : Term) → within owns (term_variables t) ≡ true → covered lifted t ≡ true → in_scope (variable_for lifted t) ≡ true
    variable_for-scoped (variable x) h k = and_left (elem x owns) true h
    variable_for-scoped (apply f ts) h k =
        let q = place lifted (apply f ts) (covered-among lifted f ts k) in
        ap in_scope (variable_for-place lifted f ts q) ∙ ltb-of-< q.at (length lifted) q.below

    variables_for-scoped : (ts : Terms) → within owns (terms_variables ts) ≡ true → covered_all lifted ts ≡ true → all in_scope (variables_for lifted ts) ≡ true
    variables_for-scoped empty h k = refl
    variables_for-scoped (cons t ts) h k =
        and-join (in_scope (variable_for lifted t)) (all in_scope (variables_for lifted ts))
        (variable_for-scoped t (within-left (term_variables t) (terms_variables ts) h) (covered-first lifted t ts k))
        (variables_for-scoped ts (within-right (term_variables t) (terms_variables ts) h) (covered-rest lifted t ts k))

    abbrev atom_in_scope : FlatAtom → Bool
    atom_in_scope a = flat_atom_scoped owns (length lifted) a

    result-scoped : (f : ℕ) (ts : Terms) (y : FlatVariable) → within owns (terms_variables ts) ≡ true → covered_all lifted ts ≡ true → in_scope y ≡ true
        → atom_in_scope (flat_result f (variables_for lifted ts) y) ≡ true
    result-scoped f ts y h k e = and-join (all in_scope (variables_for lifted ts)) (in_scope y) (variables_for-scoped ts h k) e

    shallow_atom-scoped : (a : Atom) → within owns (atom_variables (turned_atom a)) ≡ true → covered_atom lifted (turned_atom a) ≡ true
        → atom_in_scope (shallow_atom lifted (turned_atom a)) ≡ true
    shallow_atom-scoped (equal (variable x) (variable y)) h k =
        and-join (elem x owns) (elem y owns) (and_left (elem x owns) (elem y owns && true) h) (and_left (elem y owns) true (and_right (elem x owns) (elem y owns && true) h))
    shallow_atom-scoped (equal (variable x) (apply f ts)) h k =
        result-scoped f ts (own x) (within-left (terms_variables ts) (x ∷ []) h) (covered-left lifted f ts (variable x) k)
        (and_left (elem x owns) true (within-right (terms_variables ts) (x ∷ []) h))
    shallow_atom-scoped (equal (apply f ts) u) h k =
        result-scoped f ts (variable_for lifted u) (within-left (terms_variables ts) (term_variables u) h) (covered-left lifted f ts u k)
        (variable_for-scoped u (within-right (terms_variables ts) (term_variables u) h) (covered-right lifted f ts u k))
    shallow_atom-scoped (holds p ts) h k = variables_for-scoped ts h k

    -- t ≠ y, for a lifted term t and its new variable y
    term_equals-scoped : (t : Term) (i : ℕ) → within owns (term_variables t) ≡ true → covered lifted t ≡ true → i < length lifted → atom_in_scope (term_equals lifted t (new i)) ≡ true
    term_equals-scoped (variable x) i h k l = and-join (elem x owns) (ltb i (length lifted)) (and_left (elem x owns) true h) (ltb-of-< i (length lifted) l)
    term_equals-scoped (apply f ts) i h k l = result-scoped f ts (new i) h (covered-arguments lifted f ts k) (ltb-of-< i (length lifted) l)

    definitions-scoped : (i : ℕ) (ts : List Term) → i + length ts ≡ length lifted → all (λ t. within owns (term_variables t)) ts ≡ true → all (covered lifted) ts ≡ true
        → flat_scoped owns (length lifted) (definitions lifted i ts) ≡ true
    definitions-scoped i [] e h k = refl
    definitions-scoped i (t ∷ ts) e h k =
        and-join (atom_in_scope (term_equals lifted t (new i))) (flat_scoped owns (length lifted) (definitions lifted (suc i) ts))
        (term_equals-scoped t i (and_left (within owns (term_variables t)) (all (λ t. within owns (term_variables t)) ts) h) (and_left (covered lifted t) (all (covered lifted) ts) k) (omega arith))
        (definitions-scoped (suc i) ts (omega arith) (and_right (within owns (term_variables t)) (all (λ t. within owns (term_variables t)) ts) h) (and_right (covered lifted t) (all (covered lifted) ts) k))

-- the variables of each literal are variables of the clause
pub variables-within : (c : Clause) → all (λ (l : Literal). within (variables c) (atom_variables l.atom)) c ≡ true
variables-within c =
    let xs : List ℕ = concat_map (λ (l : Literal). atom_variables l.atom) c in
    sym (all-concat_map (λ x. elem x (distinct xs)) (λ (l : Literal). atom_variables l.atom) c) ∙ elem-all (λ x. elem x (distinct xs)) xs (λ x e. elem-distinct x xs e)

-- every variable of a flattened clause is one of its own or one of its new ones
pub flatten-scoped : (c : Clause) → flat_scoped (flatten c).owns (flatten c).news (flatten c).literals ≡ true
unfolding flatten
flatten-scoped c =
    let m : Clause = map turned (merged c) in
    let owns : List ℕ = variables (merged c) in
    let lifted : List Term = lifted_terms m in
    let p : Literal → Bool = λ l. within owns (atom_variables (turned_atom l.atom)) in
    let q : Literal → Bool = λ l. covered_atom lifted (turned_atom l.atom) in
    let k : all p (merged c) ≡ true =
    all-imply (λ (l : Literal). within owns (atom_variables l.atom)) p (merged c) (λ l. turned_atom-within owns l.atom) (variables-within (merged c)) in
    let a : all q (merged c) ≡ true = lifted_terms-turned (merged c) in
    let d : flat_scoped owns (length lifted) (definitions lifted 0 lifted) ≡ true =
    definitions-scoped owns lifted 0 lifted (zero-add (length lifted))
    (lifted_terms-within owns m (all_map (λ (l : Literal). within owns (atom_variables l.atom)) turned (merged c) ∙ k)) (lifted_terms-covered m) in
    let e : flat_scoped owns (length lifted) (map (shallow lifted) m) ≡ true =
    all_map (λ (l : FlatLiteral). flat_atom_scoped owns (length lifted) l.atom) (shallow lifted) m
    ∙ all_map (λ (l : Literal). flat_atom_scoped owns (length lifted) (shallow_atom lifted l.atom)) turned (merged c)
    ∙ all-imply (λ l. p l && q l) (λ (l : Literal). flat_atom_scoped owns (length lifted) (shallow_atom lifted (turned_atom l.atom))) (merged c)
    (λ l h. shallow_atom-scoped owns lifted l.atom (and_left (p l) (q l) h) (and_right (p l) (q l) h)) (all-and p q (merged c) k a) in
    all_append (λ (l : FlatLiteral). flat_atom_scoped owns (length lifted) l.atom) (definitions lifted 0 lifted) (map (shallow lifted) m)
    ∙ and-join (flat_scoped owns (length lifted) (definitions lifted 0 lifted)) (flat_scoped owns (length lifted) (map (shallow lifted) m)) d e
