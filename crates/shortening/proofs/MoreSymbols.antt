-- Syntax over a signature with helpers: that over fewer symbols, shortened clauses, and helpers' own clauses.
use Prim.Native.Nat.{ℕ, ◌+◌, ◌-◌, ◌≤◌, ◌<◌}
use mathlib.Core.Path.{◌≡◌, refl, sym, ap, ◌∙◌}
use mathlib.Core.Bool.{true, ◌&&◌}
use mathlib.Core.List.{List, [], ◌∷◌, ◌++◌, append_assoc}
use native.Mathlib.Omega.{arith}
use lib.ListN.{length, replicate, length-replicate, replicate-append-replicate}
use Rattle.theory.specs.Syntax.{Signature, Term, variable, apply, Terms, empty, cons, Atom, equal, holds, Clause, count, function_of, predicate_of, term_ok, terms_ok, atom_ok, clause_ok}
use Rattle.theory.proofs.Tests.{and_left, and_right, and-join}
use Rattle.naming.specs.FixedTerms.{helper_clause}
use Rattle.naming.specs.NamedProblem.{helper_constant, helper_symbols}
use Rattle.naming.proofs.Helpers.{with_helpers, predicate-declared, function-helper, term-declared}

-- a helper for each term
pub helpers-of : (ts : List Term) → helper_symbols ts ≡ replicate (length ts) helper_constant
helpers-of [] = refl
helpers-of (t ∷ ts) = ap (λ (l : Signature). helper_constant ∷ l) (helpers-of ts)

-- so many helpers
pub helpers-behind : (g : Signature) (n : ℕ) (ts : List Term) → length ts ≡ n → with_helpers g ts ≡ g ++ replicate n helper_constant
helpers-behind g n ts e = ap (λ (l : Signature). g ++ l) (helpers-of ts) ∙ ap (λ (k : ℕ). g ++ replicate k helper_constant) e

module _ (g : Signature) (ts : List Term) where
  terms-more : (us : Terms) → terms_ok g us ≡ true → terms_ok (with_helpers g ts) us ≡ true
  terms-more empty h = refl
  terms-more (cons t us) h =
      and-join (term_ok (with_helpers g ts) t) (terms_ok (with_helpers g ts) us) (term-declared g ts t (and_left (term_ok g t) (terms_ok g us) h)) (terms-more us (and_right (term_ok g t) (terms_ok g us) h))

  atom-more : (a : Atom) → atom_ok g a ≡ true → atom_ok (with_helpers g ts) a ≡ true
  atom-more (equal t u) h =
      and-join (term_ok (with_helpers g ts) t) (term_ok (with_helpers g ts) u) (term-declared g ts t (and_left (term_ok g t) (term_ok g u) h)) (term-declared g ts u (and_right (term_ok g t) (term_ok g u) h))
  atom-more (holds p us) h =
      and-join (predicate_of (with_helpers g ts) p (count us)) (terms_ok (with_helpers g ts) us) (predicate-declared g ts p (count us) (and_left (predicate_of g p (count us)) (terms_ok g us) h))
      (terms-more us (and_right (predicate_of g p (count us)) (terms_ok g us) h))

  clause-with : (c : Clause) → clause_ok g c ≡ true → clause_ok (with_helpers g ts) c ≡ true
  clause-with [] h = refl
  clause-with (l ∷ c) h =
      and-join (atom_ok (with_helpers g ts) l.atom) (clause_ok (with_helpers g ts) c) (atom-more l.atom (and_left (atom_ok g l.atom) (clause_ok g c) h)) (clause-with c (and_right (atom_ok g l.atom) (clause_ok g c) h))

-- a clause over fewer helpers is over more
pub clause-more : (g : Signature) (m n : ℕ) (c : Clause) → m ≤ n → clause_ok (g ++ replicate m helper_constant) c ≡ true → clause_ok (g ++ replicate n helper_constant) c ≡ true
clause-more g m n c le h =
    let h⁺ : Signature = g ++ replicate m helper_constant in
    let us : List Term = replicate (n - m) (variable 0) in
    let k : m + (n - m) ≡ n = omega arith in
    ap (λ (s : Signature). clause_ok s c)
    (ap (λ (j : ℕ). g ++ replicate j helper_constant) (sym k)
    ∙ ap (λ (l : Signature). g ++ l) (sym (replicate-append-replicate m (n - m) helper_constant))
    ∙ sym (append_assoc g (replicate m helper_constant) (replicate (n - m) helper_constant))
    ∙ sym (helpers-behind h⁺ (n - m) us (length-replicate {A = Term} (n - m) (variable 0))))
    ∙ clause-with h⁺ us c h

-- a helper's own clause
pub helper-ok : (g : Signature) (n i : ℕ) (t : Term) → i < n → term_ok g t ≡ true → clause_ok (g ++ replicate n helper_constant) (helper_clause (length g + i) t) ≡ true
helper-ok g n i t l h =
    let us : List Term = replicate n (variable 0) in
    let e : length us ≡ n = length-replicate {A = Term} n (variable 0) in
    ap (λ (s : Signature). clause_ok s (helper_clause (length g + i) t)) (sym (helpers-behind g n us e))
    ∙ and-join (term_ok (with_helpers g us) (apply (length g + i) empty) && term_ok (with_helpers g us) t) true
    (and-join (term_ok (with_helpers g us) (apply (length g + i) empty)) (term_ok (with_helpers g us) t)
    (and-join (function_of (with_helpers g us) (length g + i) 0) true (function-helper g us i (omega (arith, e))) refl) (term-declared g us t h)) refl
