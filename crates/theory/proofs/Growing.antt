-- The terms found grow as terms are added: what stood for a term found before still does.
use Prim.Native.Nat.{ℕ, suc, ◌+◌, ◌≤◌}
use mathlib.Core.Path.{◌≡◌, refl, sym, ap, ◌∙◌}
use mathlib.Core.Bool.{Bool, true, false, cond}
use mathlib.Core.Option.{Option}
use mathlib.Core.List.{List, [], ◌∷◌, ◌++◌, append_assoc, append-nil}
use native.Mathlib.Omega.{arith}
use lib.ListN.{length, length-append}
use Rattle.theory.specs.Lists.{all}
use Rattle.theory.specs.Syntax.{Term, variable, apply, Terms, empty, cons, Atom, equal, holds}
use Rattle.theory.specs.Grammar.{term_words, terms_words}
use Rattle.theory.specs.Flattening.{turned_atom, function_terms, all_function_terms, same_term, add_term, add_terms, FlatVariable, own, new, place_or0, variable_for, variables_for, flat_predicate, flat_result, shallow_atom}
use Rattle.theory.specs.Lifted.{among, covered, covered_all, covered_atom}
use Rattle.theory.proofs.Lists.{all-imply}
use Rattle.theory.proofs.Finding.{place_that-append}
use Rattle.theory.proofs.LiftedTerms.{add_terms-keeps, place, covered-among, covered-first, covered-rest, covered-left, covered-right}

-- terms are added one list after the other
pub add_terms-append : (found ts us : List Term) → add_terms found (ts ++ us) ≡ add_terms (add_terms found ts) us
add_terms-append found [] us = refl
add_terms-append found (t ∷ ts) us = add_terms-append (add_term found t) ts us

-- and stand after those found before
pub add_terms-extends : (found ts : List Term) → (zs : List Term) × (add_terms found ts ≡ found ++ zs)
add_terms-extends found [] = ([], sym (append-nil found))
add_terms-extends found (t ∷ ts) = go (among found t) (add_terms-extends (add_term found t) ts)
  where
    go : (b : Bool) → (zs : List Term) × (add_terms (cond b found (found ++ (t ∷ []))) ts ≡ cond b found (found ++ (t ∷ [])) ++ zs)
        → (zs : List Term) × (add_terms (cond b found (found ++ (t ∷ []))) ts ≡ found ++ zs)
    go true r = r
    go false r = (t ∷ r.0, r.1 ∙ append_assoc found (t ∷ []) r.0)

pub add_terms-length : (found ts : List Term) → length (add_terms found ts) ≤ length found + length ts
add_terms-length found [] = omega arith
add_terms-length found (t ∷ ts) = go (among found t) (add_terms-length (add_term found t) ts)
  where
    go : (b : Bool) → length (add_terms (cond b found (found ++ (t ∷ []))) ts) ≤ length (cond b found (found ++ (t ∷ []))) + length ts
        → length (add_terms (cond b found (found ++ (t ∷ []))) ts) ≤ length found + suc (length ts)
    go true h = omega arith
    go false h = omega (arith, length-append found (t ∷ []))

-- a term has no more function terms than words
mutual
  pub function_terms-words : (t : Term) → length (function_terms t) ≤ length (term_words t)
  function_terms-words (variable x) = omega arith
  function_terms-words (apply f ts) = omega (arith, length-append (all_function_terms ts) (apply f ts ∷ []), all_function_terms-words ts)

  pub all_function_terms-words : (ts : Terms) → length (all_function_terms ts) ≤ length (terms_words ts)
  all_function_terms-words empty = omega arith
  all_function_terms-words (cons t ts) =
      omega (arith, length-append (function_terms t) (all_function_terms ts), length-append (term_words t) (terms_words ts), function_terms-words t, all_function_terms-words ts)

pub variable_for-append : (found zs : List Term) (t : Term) → covered found t ≡ true → variable_for (found ++ zs) t ≡ variable_for found t
variable_for-append found zs (variable x) h = refl
variable_for-append found zs (apply f ts) h =
    let q = place found (apply f ts) (covered-among found f ts h) in
    ap (λ (o : Option ℕ). new (place_or0 o)) (place_that-append (same_term (apply f ts)) found zs q.at q.found ∙ sym q.found)

pub variables_for-append : (found zs : List Term) (ts : Terms) → covered_all found ts ≡ true → variables_for (found ++ zs) ts ≡ variables_for found ts
variables_for-append found zs empty h = refl
variables_for-append found zs (cons t ts) h =
    let p : variable_for (found ++ zs) t ≡ variable_for found t = variable_for-append found zs t (covered-first found t ts h) in
    let q : variables_for (found ++ zs) ts ≡ variables_for found ts = variables_for-append found zs ts (covered-rest found t ts h) in
    cc

module _ (found us : List Term) where
  -- the variable of a term whose function terms are found stays
  pub variable_for-grown : (t : Term) → covered found t ≡ true → variable_for (add_terms found us) t ≡ variable_for found t
  variable_for-grown t h =
      let r = add_terms-extends found us in
      ap (λ (l : List Term). variable_for l t) r.1 ∙ variable_for-append found r.0 t h

  pub variables_for-grown : (ts : Terms) → covered_all found ts ≡ true → variables_for (add_terms found us) ts ≡ variables_for found ts
  variables_for-grown ts h =
      let r = add_terms-extends found us in
      ap (λ (l : List Term). variables_for l ts) r.1 ∙ variables_for-append found r.0 ts h

  -- and its function terms stay found
  pub among-grown : (ts : List Term) → all (among found) ts ≡ true → all (among (add_terms found us)) ts ≡ true
  among-grown ts h = all-imply (among found) (among (add_terms found us)) ts (λ t. add_terms-keeps found us t) h

  -- so an atom from which what is to be lifted is found stays as it was made shallow
  pub shallow_atom-grown : (a : Atom) → covered_atom found (turned_atom a) ≡ true → shallow_atom (add_terms found us) (turned_atom a) ≡ shallow_atom found (turned_atom a)
  shallow_atom-grown (equal (variable x) (variable y)) h = refl
  shallow_atom-grown (equal (variable x) (apply f ts)) h =
      ap (λ (ys : List FlatVariable). flat_result f ys (own x)) (variables_for-grown ts (covered-left found f ts (variable x) h))
  shallow_atom-grown (equal (apply f ts) u) h =
      ap (λ (ys : List FlatVariable). flat_result f ys (variable_for (add_terms found us) u)) (variables_for-grown ts (covered-left found f ts u h))
      ∙ ap (flat_result f (variables_for found ts)) (variable_for-grown u (covered-right found f ts u h))
  shallow_atom-grown (holds p ts) h = ap (flat_predicate p) (variables_for-grown ts h)
