-- The named terms: without variables, over the signature, and every nameable term of the clauses is among them.
use mathlib.Core.Path.{◌≡◌, refl, sym, ap, ◌∙◌}
use mathlib.Core.Bool.{Bool, true, false, cond, false≢true}
use mathlib.Core.List.{List, [], ◌∷◌}
use Rattle.theory.specs.Lists.{all, concat_map}
use Rattle.theory.specs.Syntax.{Term, variable, apply, Terms, empty, cons, Atom, equal, holds, Literal, Clause, Signature, count, function_of, predicate_of, term_ok, terms_ok, atom_ok, clause_ok}
use Rattle.theory.specs.Truth.{Interpretation, Assignment, value, values}
use Rattle.theory.proofs.Tests.{and_left, and_right, and-join}
use Rattle.theory.proofs.Lists.{all_append, all-concat_map, all-imply, all-every}
use Rattle.theory.specs.Lifted.{among}
use Rattle.theory.proofs.LiftedTerms.{add_terms-adds, add_terms-all}
use Rattle.naming.specs.FixedTerms.{is_fixed, are_fixed, is_nameable, term_named, terms_named, atom_named, clause_named, named_terms}

-- a nameable term has no variables
pub nameable-fixed : (t : Term) → is_nameable t ≡ true → is_fixed t ≡ true
nameable-fixed (variable x) h = absurd (false≢true h)
nameable-fixed (apply f empty) h = absurd (false≢true h)
nameable-fixed (apply f (cons t ts)) h = h

-- the value of a term without variables does not depend on the assignment
module _ (I : Interpretation) (ρ τ : Assignment) where
  mutual
    pub fixed-value : (t : Term) → is_fixed t ≡ true → value I ρ t ≡ value I τ t
    fixed-value (variable x) h = absurd (false≢true h)
    fixed-value (apply f ts) h = ap (I.function f) (fixed-values ts h)

    fixed-values : (ts : Terms) → are_fixed ts ≡ true → values I ρ ts ≡ values I τ ts
    fixed-values empty h = refl
    fixed-values (cons t ts) h =
        let p : value I ρ t ≡ value I τ t = fixed-value t (and_left (is_fixed t) (are_fixed ts) h) in
        let q : values I ρ ts ≡ values I τ ts = fixed-values ts (and_right (is_fixed t) (are_fixed ts) h) in
        cc

-- the terms named within a term are nameable
mutual
  term_named-nameable : (t : Term) → all is_nameable (term_named t) ≡ true
  term_named-nameable (variable x) = refl
  term_named-nameable (apply f ts) = go (is_nameable (apply f ts)) refl (terms_named-nameable ts)
    where
      go : (b : Bool) → is_nameable (apply f ts) ≡ b → all is_nameable (terms_named ts) ≡ true → all is_nameable (cond b (apply f ts ∷ []) (terms_named ts)) ≡ true
      go true e ih = and-join (is_nameable (apply f ts)) true e refl
      go false e ih = ih

  terms_named-nameable : (ts : Terms) → all is_nameable (terms_named ts) ≡ true
  terms_named-nameable empty = refl
  terms_named-nameable (cons t ts) =
      all_append is_nameable (term_named t) (terms_named ts) ∙ and-join (all is_nameable (term_named t)) (all is_nameable (terms_named ts)) (term_named-nameable t) (terms_named-nameable ts)

atom_named-nameable : (a : Atom) → all is_nameable (atom_named a) ≡ true
atom_named-nameable (equal t u) =
    all_append is_nameable (term_named t) (term_named u) ∙ and-join (all is_nameable (term_named t)) (all is_nameable (term_named u)) (term_named-nameable t) (term_named-nameable u)
atom_named-nameable (holds p ts) = terms_named-nameable ts

clause_named-nameable : (c : Clause) → all is_nameable (clause_named c) ≡ true
clause_named-nameable c =
    all-concat_map is_nameable (λ (l : Literal). atom_named l.atom) c ∙ all-every (λ (l : Literal). all is_nameable (atom_named l.atom)) c (λ l. atom_named-nameable l.atom)

pub named-nameable : (cs : List Clause) → all is_nameable (named_terms cs) ≡ true
unfolding named_terms
named-nameable cs =
    add_terms-all is_nameable [] (concat_map clause_named cs) refl (all-concat_map is_nameable clause_named cs ∙ all-every (λ c. all is_nameable (clause_named c)) cs clause_named-nameable)

pub named-fixed : (cs : List Clause) → all is_fixed (named_terms cs) ≡ true
named-fixed cs = all-imply is_nameable is_fixed (named_terms cs) nameable-fixed (named-nameable cs)

-- those of syntax over the signature are over it
module _ (g : Signature) where
  mutual
    term_named-ok : (t : Term) → term_ok g t ≡ true → all (term_ok g) (term_named t) ≡ true
    term_named-ok (variable x) h = refl
    term_named-ok (apply f ts) h = go (is_nameable (apply f ts)) (terms_named-ok ts (and_right (function_of g f (count ts)) (terms_ok g ts) h))
      where
        go : (b : Bool) → all (term_ok g) (terms_named ts) ≡ true → all (term_ok g) (cond b (apply f ts ∷ []) (terms_named ts)) ≡ true
        go true ih = and-join (term_ok g (apply f ts)) true h refl
        go false ih = ih

    terms_named-ok : (ts : Terms) → terms_ok g ts ≡ true → all (term_ok g) (terms_named ts) ≡ true
    terms_named-ok empty h = refl
    terms_named-ok (cons t ts) h =
        all_append (term_ok g) (term_named t) (terms_named ts)
        ∙ and-join (all (term_ok g) (term_named t)) (all (term_ok g) (terms_named ts)) (term_named-ok t (and_left (term_ok g t) (terms_ok g ts) h)) (terms_named-ok ts (and_right (term_ok g t) (terms_ok g ts) h))

  atom_named-ok : (a : Atom) → atom_ok g a ≡ true → all (term_ok g) (atom_named a) ≡ true
  atom_named-ok (equal t u) h =
      all_append (term_ok g) (term_named t) (term_named u)
      ∙ and-join (all (term_ok g) (term_named t)) (all (term_ok g) (term_named u)) (term_named-ok t (and_left (term_ok g t) (term_ok g u) h)) (term_named-ok u (and_right (term_ok g t) (term_ok g u) h))
  atom_named-ok (holds p ts) h = terms_named-ok ts (and_right (predicate_of g p (count ts)) (terms_ok g ts) h)

  clause_named-ok : (c : Clause) → clause_ok g c ≡ true → all (term_ok g) (clause_named c) ≡ true
  clause_named-ok c h =
      all-concat_map (term_ok g) (λ (l : Literal). atom_named l.atom) c
      ∙ all-imply (λ (l : Literal). atom_ok g l.atom) (λ (l : Literal). all (term_ok g) (atom_named l.atom)) c (λ l. atom_named-ok l.atom) h

  pub named_ok : (cs : List Clause) → all (clause_ok g) cs ≡ true → all (term_ok g) (named_terms cs) ≡ true
  unfolding named_terms
  named_ok cs h =
      add_terms-all (term_ok g) [] (concat_map clause_named cs) refl
      (all-concat_map (term_ok g) clause_named cs ∙ all-imply (clause_ok g) (λ c. all (term_ok g) (clause_named c)) cs clause_named-ok h)

-- every nameable term of a clause of the list is among the named terms
pub named-covers : (cs : List Clause) → all (λ c. all (among (named_terms cs)) (clause_named c)) cs ≡ true
unfolding named_terms
named-covers cs = sym (all-concat_map (among (named_terms cs)) clause_named cs) ∙ add_terms-adds [] (concat_map clause_named cs)

-- and so within a clause's literals
pub literal-covers : (ts : List Term) (c : Clause) → all (among ts) (clause_named c) ≡ true → all (λ (l : Literal). all (among ts) (atom_named l.atom)) c ≡ true
literal-covers ts c h = sym (all-concat_map (among ts) (λ (l : Literal). atom_named l.atom) c) ∙ h
