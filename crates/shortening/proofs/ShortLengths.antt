-- A shortened clause has as many words, whatever the names are.
use Prim.Native.Nat.{ℕ, suc, ◌≤◌}
use mathlib.Core.Path.{◌≡◌, refl, sym, ap, ◌∙◌}
use mathlib.Core.Bool.{Bool, true, false, cond, ◌&&◌}
use mathlib.Core.List.{List, [], ◌∷◌}
use native.Mathlib.Omega.{arith}
use lib.Dec.{leb}
use lib.ListN.{length, length-append}
use Rattle.theory.specs.Lists.{all}
use Rattle.theory.specs.Syntax.{Term, variable, apply, Terms, empty, cons, Atom, equal, holds, Clause}
use Rattle.theory.specs.Grammar.{term_words, terms_words, atom_words, clause_words}
use Rattle.theory.specs.Flattening.{flatten, variable_count}
use Rattle.theory.specs.Problem.{max_words, max_literals, max_variables, within_limits}
use Rattle.theory.proofs.Tests.{leb-true, and_left, and_right}
use Rattle.theory.proofs.Lists.{all_append}
use Rattle.naming.specs.FixedTerms.{is_nameable, named_terms, name_of, short_term, short_terms, short_atom, short_clause, helper_clauses, named_clauses}
use Rattle.naming.specs.NamedReading.{is_within, is_within_named}

module _ (n m : ℕ) (N M : List Term) where
  mutual
    term-same : (t : Term) → length (term_words (short_term n N t)) ≡ length (term_words (short_term m M t))
    term-same (variable x) = refl
    term-same (apply f us) = go (is_nameable (apply f us)) (terms-same us)
      where
        go : (b : Bool) → length (terms_words (short_terms n N us)) ≡ length (terms_words (short_terms m M us))
            → length (term_words (cond b (name_of n N (apply f us)) (apply f (short_terms n N us)))) ≡ length (term_words (cond b (name_of m M (apply f us)) (apply f (short_terms m M us))))
        go true e = refl
        go false e = ap suc e

    terms-same : (us : Terms) → length (terms_words (short_terms n N us)) ≡ length (terms_words (short_terms m M us))
    terms-same empty = refl
    terms-same (cons t us) =
        omega (arith, length-append (term_words (short_term n N t)) (terms_words (short_terms n N us)), length-append (term_words (short_term m M t)) (terms_words (short_terms m M us)), term-same t, terms-same us)

  atom-same : (a : Atom) → length (atom_words (short_atom n N a)) ≡ length (atom_words (short_atom m M a))
  atom-same (equal t u) =
      omega (arith, length-append (term_words (short_term n N t)) (term_words (short_term n N u)), length-append (term_words (short_term m M t)) (term_words (short_term m M u)), term-same t, term-same u)
  atom-same (holds p us) = ap suc (terms-same us)

  pub clause-same : (c : Clause) → length (clause_words (short_clause n N c)) ≡ length (clause_words (short_clause m M c))
  clause-same [] = refl
  clause-same (l ∷ c) =
      omega (arith, length-append (atom_words (short_atom n N l.atom)) (clause_words (short_clause n N c)), length-append (atom_words (short_atom m M l.atom)) (clause_words (short_clause m M c)), atom-same l.atom, clause-same c)

-- a clause within the limits has no more words than a clause may have
pub words-within : (c : Clause) → is_within c ≡ true → length (clause_words c) ≤ max_words
unfolding within_limits
words-within c h =
    let x : Bool = leb (length (clause_words c)) max_words in
    let y : Bool = leb (length c) max_literals in
    let z : Bool = leb (variable_count (flatten c)) max_variables in
    leb-true (length (clause_words c)) max_words (and_left x y (and_left (x && y) z h))

-- within the limits of the mode, a clause has not too many words under any names
pub short-within : (n : ℕ) (N : List Term) (c : Clause) → is_within_named n c ≡ true → length (clause_words (short_clause n N c)) ≤ max_words
unfolding is_within_named named_clauses
short-within n N c h =
    let own : List Term = named_terms (c ∷ []) in
    let short : Clause = short_clause n own c in
    let both : (all is_within (helper_clauses n own) && (is_within short && true)) ≡ true = sym (all_append is_within (helper_clauses n own) (short ∷ [])) ∙ h in
    let e : is_within short ≡ true = and_left (is_within short) true (and_right (all is_within (helper_clauses n own)) (is_within short && true) both) in
    omega (arith, words-within short e, clause-same n n N own c)
