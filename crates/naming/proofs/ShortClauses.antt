-- Shortened clauses and helpers' own clauses are over the mode's symbols.
use Prim.Native.Nat.{ℕ, suc, ◌+◌, ◌<◌}
use mathlib.Core.Path.{◌≡◌, refl, sym, ap, ◌∙◌}
use mathlib.Core.Bool.{Bool, true, false, cond, ◌&&◌}
use mathlib.Core.Option.{Option}
use mathlib.Core.List.{List, [], ◌∷◌, ◌++◌, map}
use native.Mathlib.Nat.{add-zero, zero-add}
use native.Mathlib.Omega.{arith}
use lib.ListN.{length, get_or}
use Rattle.theory.specs.Lists.{all}
use Rattle.theory.specs.Syntax.{Term, variable, apply, Terms, empty, cons, Atom, equal, holds, Literal, Clause, Signature, count, function_of, predicate_of, term_ok, terms_ok, atom_ok, clause_ok}
use Rattle.theory.specs.Flattening.{place_or0}
use Rattle.theory.specs.Lifted.{among}
use Rattle.theory.proofs.Tests.{and_left, and_right, and-join}
use Rattle.theory.proofs.Lists.{all_append}
use Rattle.theory.proofs.LiftedTerms.{Place, place}
use Rattle.naming.specs.FixedTerms.{is_nameable, term_named, terms_named, atom_named, clause_named, named_terms, name_of, short_term, short_terms, short_atom, short_clause, helper_clause, helper_clauses, named_clauses}
use Rattle.naming.proofs.NamedTerms.{named_ok, named-covers, literal-covers}
use Rattle.naming.proofs.Helpers.{with_helpers, function-declared, predicate-declared, function-helper, term-declared}

module _ (g : Signature) (ts : List Term) where
  abbrev g⁺ : Signature
  g⁺ = with_helpers g ts

  -- the place of a term's name
  pub name-place : (t : Term) → among ts t ≡ true → (i : ℕ) × (i < length ts) × (get_or ts i (variable 0) ≡ t) × (name_of (length g) ts t ≡ apply (length g + i) empty)
  name-place t h =
      let q : Place ts t = place ts t h in
      (q.at, q.below, q.there, ap (λ (o : Option ℕ). apply (length g + place_or0 o) empty) q.found)

  count-short : (us : Terms) → count (short_terms (length g) ts us) ≡ count us
  count-short empty = refl
  count-short (cons t us) = ap suc (count-short us)

  pub covered-first : (t : Term) (us : Terms) → all (among ts) (term_named t ++ terms_named us) ≡ true → all (among ts) (term_named t) ≡ true
  covered-first t us h = and_left (all (among ts) (term_named t)) (all (among ts) (terms_named us)) (sym (all_append (among ts) (term_named t) (terms_named us)) ∙ h)

  pub covered-rest : (t : Term) (us : Terms) → all (among ts) (term_named t ++ terms_named us) ≡ true → all (among ts) (terms_named us) ≡ true
  covered-rest t us h = and_right (all (among ts) (term_named t)) (all (among ts) (terms_named us)) (sym (all_append (among ts) (term_named t) (terms_named us)) ∙ h)

  pub covered-left : (t u : Term) → all (among ts) (term_named t ++ term_named u) ≡ true → all (among ts) (term_named t) ≡ true
  covered-left t u h = and_left (all (among ts) (term_named t)) (all (among ts) (term_named u)) (sym (all_append (among ts) (term_named t) (term_named u)) ∙ h)

  pub covered-right : (t u : Term) → all (among ts) (term_named t ++ term_named u) ≡ true → all (among ts) (term_named u) ≡ true
  covered-right t u h = and_right (all (among ts) (term_named t)) (all (among ts) (term_named u)) (sym (all_append (among ts) (term_named t) (term_named u)) ∙ h)

  name-ok : (t : Term) → among ts t ≡ true → term_ok g⁺ (name_of (length g) ts t) ≡ true
  name-ok t h =
      let q = name-place t h in
      ap (term_ok g⁺) q.3 ∙ and-join (function_of g⁺ (length g + q.0) 0) true (function-helper g ts q.0 q.1) refl

  mutual
    short_ok : (t : Term) → term_ok g t ≡ true → all (among ts) (term_named t) ≡ true → term_ok g⁺ (short_term (length g) ts t) ≡ true
    short_ok (variable x) h k = refl
    short_ok (apply f us) h k = go (is_nameable (apply f us)) k (λ c. shorts-ok us (and_right (function_of g f (count us)) (terms_ok g us) h) c)
      where
        go : (b : Bool) → all (among ts) (cond b (apply f us ∷ []) (terms_named us)) ≡ true → (all (among ts) (terms_named us) ≡ true → terms_ok g⁺ (short_terms (length g) ts us) ≡ true)
            → term_ok g⁺ (cond b (name_of (length g) ts (apply f us)) (apply f (short_terms (length g) ts us))) ≡ true
        go true c ih = name-ok (apply f us) (and_left (among ts (apply f us)) true c)
        go false c ih =
            and-join (function_of g⁺ f (count (short_terms (length g) ts us))) (terms_ok g⁺ (short_terms (length g) ts us))
            (ap (function_of g⁺ f) (count-short us) ∙ function-declared g ts f (count us) (and_left (function_of g f (count us)) (terms_ok g us) h)) (ih c)

    shorts-ok : (us : Terms) → terms_ok g us ≡ true → all (among ts) (terms_named us) ≡ true → terms_ok g⁺ (short_terms (length g) ts us) ≡ true
    shorts-ok empty h k = refl
    shorts-ok (cons t us) h k =
        and-join (term_ok g⁺ (short_term (length g) ts t)) (terms_ok g⁺ (short_terms (length g) ts us))
        (short_ok t (and_left (term_ok g t) (terms_ok g us) h) (covered-first t us k)) (shorts-ok us (and_right (term_ok g t) (terms_ok g us) h) (covered-rest t us k))

  short_atom-ok : (a : Atom) → atom_ok g a ≡ true → all (among ts) (atom_named a) ≡ true → atom_ok g⁺ (short_atom (length g) ts a) ≡ true
  short_atom-ok (equal t u) h k =
      and-join (term_ok g⁺ (short_term (length g) ts t)) (term_ok g⁺ (short_term (length g) ts u))
      (short_ok t (and_left (term_ok g t) (term_ok g u) h) (covered-left t u k)) (short_ok u (and_right (term_ok g t) (term_ok g u) h) (covered-right t u k))
  short_atom-ok (holds p us) h k =
      and-join (predicate_of g⁺ p (count (short_terms (length g) ts us))) (terms_ok g⁺ (short_terms (length g) ts us))
      (ap (predicate_of g⁺ p) (count-short us) ∙ predicate-declared g ts p (count us) (and_left (predicate_of g p (count us)) (terms_ok g us) h))
      (shorts-ok us (and_right (predicate_of g p (count us)) (terms_ok g us) h) k)

  -- the literals of a clause that is covered
  abbrev pub atoms_covered : Clause → Bool
  atoms_covered c = all (λ (l : Literal). all (among ts) (atom_named l.atom)) c

  short_clause-ok : (c : Clause) → clause_ok g c ≡ true → atoms_covered c ≡ true → clause_ok g⁺ (short_clause (length g) ts c) ≡ true
  short_clause-ok [] h k = refl
  short_clause-ok (l ∷ c) h k =
      and-join (atom_ok g⁺ (short_atom (length g) ts l.atom)) (clause_ok g⁺ (short_clause (length g) ts c))
      (short_atom-ok l.atom (and_left (atom_ok g l.atom) (clause_ok g c) h) (and_left (all (among ts) (atom_named l.atom)) (atoms_covered c) k))
      (short_clause-ok c (and_right (atom_ok g l.atom) (clause_ok g c) h) (and_right (all (among ts) (atom_named l.atom)) (atoms_covered c) k))

  -- a clause that is covered
  abbrev pub clause_covered : Clause → Bool
  clause_covered c = all (among ts) (clause_named c)

  short_clauses-ok : (cs : List Clause) → all (clause_ok g) cs ≡ true → all clause_covered cs ≡ true → all (clause_ok g⁺) (map (short_clause (length g) ts) cs) ≡ true
  short_clauses-ok [] h k = refl
  short_clauses-ok (c ∷ cs) h k =
      and-join (clause_ok g⁺ (short_clause (length g) ts c)) (all (clause_ok g⁺) (map (short_clause (length g) ts) cs))
      (short_clause-ok c (and_left (clause_ok g c) (all (clause_ok g) cs) h) (literal-covers ts c (and_left (clause_covered c) (all clause_covered cs) k)))
      (short_clauses-ok cs (and_right (clause_ok g c) (all (clause_ok g) cs) h) (and_right (clause_covered c) (all clause_covered cs) k))

  -- the clauses of the helpers from number i on
  helper_clauses-ok : (us : List Term) (i : ℕ) → i + length us ≡ length ts → all (term_ok g) us ≡ true → all (clause_ok g⁺) (helper_clauses (length g + i) us) ≡ true
  helper_clauses-ok [] i e h = refl
  helper_clauses-ok (u ∷ us) i e h =
      let n : suc (length g + i) ≡ length g + suc i = omega arith in
      and-join (clause_ok g⁺ (helper_clause (length g + i) u)) (all (clause_ok g⁺) (helper_clauses (suc (length g + i)) us))
      (and-join (term_ok g⁺ (apply (length g + i) empty) && term_ok g⁺ u) true
      (and-join (term_ok g⁺ (apply (length g + i) empty)) (term_ok g⁺ u)
      (and-join (function_of g⁺ (length g + i) 0) true (function-helper g ts i (omega arith)) refl)
      (term-declared g ts u (and_left (term_ok g u) (all (term_ok g) us) h))) refl)
      (ap (λ (n : ℕ). all (clause_ok g⁺) (helper_clauses n us)) n ∙ helper_clauses-ok us (suc i) (omega arith) (and_right (term_ok g u) (all (term_ok g) us) h))

-- the mode's clauses are over the mode's symbols
pub named_clauses-ok : (g : Signature) (cs : List Clause) → all (clause_ok g) cs ≡ true → all (clause_ok (with_helpers g (named_terms cs))) (named_clauses (length g) cs) ≡ true
unfolding named_clauses
named_clauses-ok g cs ok =
    let ts : List Term = named_terms cs in
    let test : Clause → Bool = clause_ok (with_helpers g ts) in
    let hs : List Clause = helper_clauses (length g) ts in
    let ds : List Clause = map (short_clause (length g) ts) cs in
    all_append test hs ds
    ∙ and-join (all test hs) (all test ds)
    (ap (λ (n : ℕ). all test (helper_clauses n ts)) (sym (add-zero (length g))) ∙ helper_clauses-ok g ts ts 0 (zero-add (length ts)) (named_ok g cs ok))
    (short_clauses-ok g ts cs ok (named-covers cs))
