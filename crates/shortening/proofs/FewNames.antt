-- A shortened clause within the limits has at most 26 names: each is lifted, and so has a variable, or is the left side of an equality.
use Prim.Native.Nat.{ℕ, zero, suc, ◌+◌, ◌≤◌, ◌<◌}
use mathlib.Core.Path.{◌≡◌, refl, sym, ap, ◌∙◌}
use mathlib.Core.Logic.{◌⊎◌, inl, inr}
use mathlib.Core.Bool.{Bool, true, false, cond, not, ◌&&◌, ◌||◌, false≢true}
use mathlib.Core.Option.{Option, none, some, some-injective}
use mathlib.Core.List.{List, [], ◌∷◌, ◌++◌, map, append-nil}
use native.Mathlib.Omega.{arith}
use lib.Dec.{eqb, leb}
use lib.ListN.{length, get_or, length-append, length-map}
use Rattle.theory.specs.Lists.{any, all, select, concat_map, place_that}
use Rattle.theory.specs.Syntax.{Term, variable, apply, Terms, empty, cons, Atom, equal, holds, Literal, Clause, variables}
use Rattle.theory.specs.Grammar.{clause_words}
use Rattle.theory.specs.Flattening.{rename_term, rename_terms, rename_atom, rename_literal, unequal_variables, Unequal, leftmost_at, leftmost, merge_found, merge, merged, turned_atom, turned, function_terms, all_function_terms, to_lift, same_term, lifted_terms, place_or0, flatten, variable_count}
use Rattle.theory.specs.Lifted.{among}
use Rattle.theory.specs.Problem.{max_words, max_literals, max_variables, within_limits}
use Rattle.theory.proofs.Letters.{merged-length}
use Rattle.theory.proofs.Tests.{eqb_same, eqb-false, both_false, leb-true, and_left, and_right, and-join, or_cases, or_left, or_right}
use Rattle.theory.proofs.Lists.{any_append, all-at}
use Rattle.theory.proofs.LiftedTerms.{same_term-true, same_term-same, same_term-of-≡, add_terms-adds, add_terms-all}
use Rattle.naming.specs.FixedTerms.{is_nameable, term_named, terms_named, atom_named, clause_named, named_terms, name_of, short_term, short_terms, short_atom, short_clause}
use Rattle.naming.specs.NamedReading.{is_within}
use Rattle.naming.proofs.Limits.{own-place, named-different}

-- no terms
abbrev is_empty : Terms → Bool
is_empty empty = true
is_empty (cons t ts) = false

-- the constant at place k stands in a term
abbrev mutual
  mentions_term : ℕ → Term → Bool
  mentions_term k (variable x) = false
  mentions_term k (apply f ts) = (eqb k f && is_empty ts) || mentions_terms k ts

  mentions_terms : ℕ → Terms → Bool
  mentions_terms k empty = false
  mentions_terms k (cons t ts) = mentions_term k t || mentions_terms k ts

-- in an atom, and in a clause
abbrev mentions_atom : ℕ → Atom → Bool
mentions_atom k (equal t u) = mentions_term k t || mentions_term k u
mentions_atom k (holds p ts) = mentions_terms k ts

abbrev mentions : ℕ → Clause → Bool
mentions k c = any (λ (l : Literal). mentions_atom k l.atom) c

-- Step 1 keeps constants.
empty-renamed : (x y : ℕ) (ts : Terms) → is_empty (rename_terms x y ts) ≡ is_empty ts
empty-renamed x y empty = refl
empty-renamed x y (cons t ts) = refl

-- the left side of an equality
abbrev left_of : Atom → List Term
left_of (equal t u) = t ∷ []
left_of (holds p ts) = []

module _ (k : ℕ) where
  mutual
    term-renamed : (x y : ℕ) (t : Term) → mentions_term k (rename_term x y t) ≡ mentions_term k t
    term-renamed x y (variable z) = refl
    term-renamed x y (apply f ts) =
        ap (λ (b : Bool). (eqb k f && b) || mentions_terms k (rename_terms x y ts)) (empty-renamed x y ts) ∙ ap (λ (b : Bool). (eqb k f && is_empty ts) || b) (terms-renamed x y ts)

    terms-renamed : (x y : ℕ) (ts : Terms) → mentions_terms k (rename_terms x y ts) ≡ mentions_terms k ts
    terms-renamed x y empty = refl
    terms-renamed x y (cons t ts) =
        ap (λ (b : Bool). b || mentions_terms k (rename_terms x y ts)) (term-renamed x y t) ∙ ap (λ (b : Bool). mentions_term k t || b) (terms-renamed x y ts)

  atom-renamed : (x y : ℕ) (a : Atom) → mentions_atom k (rename_atom x y a) ≡ mentions_atom k a
  atom-renamed x y (equal t u) = ap (λ (b : Bool). b || mentions_term k (rename_term x y u)) (term-renamed x y t) ∙ ap (λ (b : Bool). mentions_term k t || b) (term-renamed x y u)
  atom-renamed x y (holds p ts) = terms-renamed x y ts

  clause-renamed : (x y : ℕ) (c : Clause) → mentions k (map (rename_literal x y) c) ≡ mentions k c
  clause-renamed x y [] = refl
  clause-renamed x y (l ∷ c) =
      ap (λ (b : Bool). b || mentions k (map (rename_literal x y) c)) (atom-renamed x y l.atom) ∙ ap (λ (b : Bool). mentions_atom k l.atom || b) (clause-renamed x y c)

  variables-only : (b : Bool) (a : Atom) (p : ℕ × ℕ) → unequal_variables b a ≡ some p → mentions_atom k a ≡ false
  variables-only true a p e = let z : ◌≡◌ {A = ℕ} 0 1 = cc in absurd (omega arith)
  variables-only false (equal (variable x) (variable y)) p e = refl
  variables-only false (equal (variable x) (apply f ts)) p e = let z : ◌≡◌ {A = ℕ} 0 1 = cc in absurd (omega arith)
  variables-only false (equal (apply f ts) u) p e = let z : ◌≡◌ {A = ℕ} 0 1 = cc in absurd (omega arith)
  variables-only false (holds q ts) p e = let z : ◌≡◌ {A = ℕ} 0 1 = cc in absurd (omega arith)

  leftmost-kept : (c : Clause) (r : Unequal) → leftmost c ≡ some r → mentions k r.rest ≡ mentions k c
  leftmost-kept [] r e = let z : ◌≡◌ {A = ℕ} 0 1 = cc in absurd (omega arith)
  leftmost-kept (l ∷ c) r e = go (unequal_variables l.sign l.atom) refl (leftmost c) refl e (λ u q. leftmost-kept c u q)
    where
      go : (o : Option (ℕ × ℕ)) → unequal_variables l.sign l.atom ≡ o → (m : Option Unequal) → leftmost c ≡ m → leftmost_at l c o m ≡ some r
          → ((u : Unequal) → leftmost c ≡ some u → mentions k u.rest ≡ mentions k c) → mentions k r.rest ≡ mentions k (l ∷ c)
      go (some p) h m q e ih =
          ap (λ (u : Unequal). mentions k u.rest) (sym (some-injective (record { x = p.0; y = p.1; rest = c }) r e)) ∙ ap (λ (b : Bool). b || mentions k c) (sym (variables-only l.sign l.atom p h))
      go none h (some u) q e ih =
          ap (λ (u : Unequal). mentions k u.rest) (sym (some-injective (record { x = u.x; y = u.y; rest = l ∷ u.rest }) r e)) ∙ ap (λ (b : Bool). mentions_atom k l.atom || b) (ih u q)
      go none h none q e ih = let z : ◌≡◌ {A = ℕ} 0 1 = cc in absurd (omega arith)

  merge-kept : (n : ℕ) (c : Clause) → mentions k (merge n c) ≡ mentions k c
  merge-kept zero c = refl
  merge-kept (suc n) c = go (leftmost c) refl (merge-kept n)
    where
      go : (o : Option Unequal) → leftmost c ≡ o → ((d : Clause) → mentions k (merge n d) ≡ mentions k d) → mentions k (merge_found (merge n) c o) ≡ mentions k c
      go none e ih = refl
      go (some r) e ih = ih (map (rename_literal r.x r.y) r.rest) ∙ clause-renamed r.x r.y r.rest ∙ leftmost-kept c r e

  merged-kept : (c : Clause) → mentions k (merged c) ≡ mentions k c
  unfolding merged
  merged-kept c = merge-kept (length c) c

  or_swap : (a b : Bool) → (a || b) ≡ (b || a)
  or_swap true true = refl
  or_swap true false = refl
  or_swap false true = refl
  or_swap false false = refl

  -- Step 2 too.
  turned-kept : (a : Atom) → mentions_atom k (turned_atom a) ≡ mentions_atom k a
  turned-kept (equal (variable x) (variable y)) = refl
  turned-kept (equal (variable x) (apply f ts)) = or_swap (mentions_term k (apply f ts)) false
  turned-kept (equal (apply f ts) u) = refl
  turned-kept (holds p ts) = refl

  -- the constant
  abbrev constant : Term
  constant = apply k empty

  or_split : (xs ys : List Term) → ((among xs constant) || (among ys constant)) ≡ true → among (xs ++ ys) constant ≡ true
  or_split xs ys h = any_append (same_term constant) xs ys ∙ h

  -- a constant that stands in a term is one of its function terms
  mutual
    term-mentions : (t : Term) → mentions_term k t ≡ true → among (function_terms t) constant ≡ true
    term-mentions (variable x) h = absurd (false≢true h)
    term-mentions (apply f ts) h = or_split (all_function_terms ts) (apply f ts ∷ []) (go (or_cases (eqb k f && is_empty ts) (mentions_terms k ts) h) (λ e. terms-mentions ts e))
      where
        itself : (us : Terms) → (eqb k f && is_empty us) ≡ true → same_term constant (apply f us) ≡ true
        itself empty e = e
        itself (cons u us) e = absurd (false≢true (and_right (eqb k f) false e))

        go : ((eqb k f && is_empty ts) ≡ true) ⊎ (mentions_terms k ts ≡ true) → (mentions_terms k ts ≡ true → among (all_function_terms ts) constant ≡ true)
            → (among (all_function_terms ts) constant || among (apply f ts ∷ []) constant) ≡ true
        go (inl e) ih = or_right (among (all_function_terms ts) constant) (among (apply f ts ∷ []) constant) (or_left (same_term constant (apply f ts)) false (itself ts e))
        go (inr e) ih = or_left (among (all_function_terms ts) constant) (among (apply f ts ∷ []) constant) (ih e)

    terms-mentions : (ts : Terms) → mentions_terms k ts ≡ true → among (all_function_terms ts) constant ≡ true
    terms-mentions empty h = absurd (false≢true h)
    terms-mentions (cons t ts) h = or_split (function_terms t) (all_function_terms ts) (go (or_cases (mentions_term k t) (mentions_terms k ts) h) (λ e. term-mentions t e) (λ e. terms-mentions ts e))
      where
        go : (mentions_term k t ≡ true) ⊎ (mentions_terms k ts ≡ true) → (mentions_term k t ≡ true → among (function_terms t) constant ≡ true) → (mentions_terms k ts ≡ true → among (all_function_terms ts) constant ≡ true)
            → (among (function_terms t) constant || among (all_function_terms ts) constant) ≡ true
        go (inl e) p q = or_left (among (function_terms t) constant) (among (all_function_terms ts) constant) (p e)
        go (inr e) p q = or_right (among (function_terms t) constant) (among (all_function_terms ts) constant) (q e)

  -- in a turned atom it is lifted, or is the left side
  left-mentions : (f : ℕ) (ts : Terms) (u : Term) → (mentions_term k (apply f ts) || mentions_term k u) ≡ true
      → (among (all_function_terms ts ++ function_terms u) constant ≡ true) ⊎ (among (apply f ts ∷ []) constant ≡ true)
  left-mentions f ts u h = first (or_cases (mentions_term k (apply f ts)) (mentions_term k u) h)
    where
      itself : (us : Terms) → (eqb k f && is_empty us) ≡ true → among (apply f us ∷ []) constant ≡ true
      itself empty e = or_left (eqb k f && true) false e
      itself (cons v us) e = absurd (false≢true (and_right (eqb k f) false e))

      second : ((eqb k f && is_empty ts) ≡ true) ⊎ (mentions_terms k ts ≡ true) → (among (all_function_terms ts ++ function_terms u) constant ≡ true) ⊎ (among (apply f ts ∷ []) constant ≡ true)
      second (inl e) = inr (itself ts e)
      second (inr e) = inl (or_split (all_function_terms ts) (function_terms u) (or_left (among (all_function_terms ts) constant) (among (function_terms u) constant) (terms-mentions ts e)))

      first : (mentions_term k (apply f ts) ≡ true) ⊎ (mentions_term k u ≡ true) → (among (all_function_terms ts ++ function_terms u) constant ≡ true) ⊎ (among (apply f ts ∷ []) constant ≡ true)
      first (inl e) = second (or_cases (eqb k f && is_empty ts) (mentions_terms k ts) e)
      first (inr e) = inl (or_split (all_function_terms ts) (function_terms u) (or_right (among (all_function_terms ts) constant) (among (function_terms u) constant) (term-mentions u e)))

  atom-mentions : (a : Atom) → mentions_atom k (turned_atom a) ≡ true → (among (to_lift (turned_atom a)) constant ≡ true) ⊎ (among (left_of (turned_atom a)) constant ≡ true)
  atom-mentions (equal (variable x) (variable y)) h = absurd (false≢true h)
  atom-mentions (equal (variable x) (apply f ts)) h = left-mentions f ts (variable x) h
  atom-mentions (equal (apply f ts) u) h = left-mentions f ts u h
  atom-mentions (holds p ts) h = inl (terms-mentions ts h)

  clause-mentions : (c : Clause) → mentions k c ≡ true
      → (among (concat_map (λ (l : Literal). to_lift l.atom) (map turned c)) constant ≡ true) ⊎ (among (concat_map (λ (l : Literal). left_of l.atom) (map turned c)) constant ≡ true)
  clause-mentions [] h = absurd (false≢true h)
  clause-mentions (l ∷ c) h = go (or_cases (mentions_atom k l.atom) (mentions k c) h) (λ e. clause-mentions c e)
    where
      lifted : Clause → List Term
      lifted d = concat_map (λ (l : Literal). to_lift l.atom) (map turned d)

      lefts : Clause → List Term
      lefts d = concat_map (λ (l : Literal). left_of l.atom) (map turned d)

      here : (among (to_lift (turned_atom l.atom)) constant ≡ true) ⊎ (among (left_of (turned_atom l.atom)) constant ≡ true) → (among (lifted (l ∷ c)) constant ≡ true) ⊎ (among (lefts (l ∷ c)) constant ≡ true)
      here (inl e) = inl (or_split (to_lift (turned_atom l.atom)) (lifted c) (or_left (among (to_lift (turned_atom l.atom)) constant) (among (lifted c) constant) e))
      here (inr e) = inr (or_split (left_of (turned_atom l.atom)) (lefts c) (or_left (among (left_of (turned_atom l.atom)) constant) (among (lefts c) constant) e))

      later : (among (lifted c) constant ≡ true) ⊎ (among (lefts c) constant ≡ true) → (among (lifted (l ∷ c)) constant ≡ true) ⊎ (among (lefts (l ∷ c)) constant ≡ true)
      later (inl e) = inl (or_split (to_lift (turned_atom l.atom)) (lifted c) (or_right (among (to_lift (turned_atom l.atom)) constant) (among (lifted c) constant) e))
      later (inr e) = inr (or_split (left_of (turned_atom l.atom)) (lefts c) (or_right (among (left_of (turned_atom l.atom)) constant) (among (lefts c) constant) e))

      go : (mentions_atom k l.atom ≡ true) ⊎ (mentions k c ≡ true) → (mentions k c ≡ true → (among (lifted c) constant ≡ true) ⊎ (among (lefts c) constant ≡ true))
          → (among (lifted (l ∷ c)) constant ≡ true) ⊎ (among (lefts (l ∷ c)) constant ≡ true)
      go (inl e) ih = here (atom-mentions l.atom (turned-kept l.atom ∙ e))
      go (inr e) ih = later (ih e)

-- the terms that a constant of a clause is among: those lifted from it, and the left sides
abbrev holders : Clause → List Term
holders c = lifted_terms (map turned (merged c)) ++ concat_map (λ (l : Literal). left_of l.atom) (map turned (merged c))

-- a term among terms that are all among others is among these
among-all : (ts us : List Term) (t : Term) → all (among us) ts ≡ true → among ts t ≡ true → among us t ≡ true
among-all [] us t h k = absurd (false≢true k)
among-all (u ∷ ts) us t h k = go (or_cases (same_term t u) (among ts t) k) (λ e. among-all ts us t (and_right (among us u) (all (among us) ts) h) e)
  where
    go : (same_term t u ≡ true) ⊎ (among ts t ≡ true) → (among ts t ≡ true → among us t ≡ true) → among us t ≡ true
    go (inl e) ih = ap (among us) (same_term-true t u e) ∙ and_left (among us u) (all (among us) ts) h
    go (inr e) ih = ih e

held : (k : ℕ) (c : Clause) → mentions k c ≡ true → among (holders c) (apply k empty) ≡ true
unfolding lifted_terms
held k c h = any_append (same_term (apply k empty)) L lefts ∙ go (clause-mentions k (merged c) (merged-kept k c ∙ h))
  where
    ts : List Term
    ts = concat_map (λ (l : Literal). to_lift l.atom) (map turned (merged c))

    L : List Term
    L = lifted_terms (map turned (merged c))

    lefts : List Term
    lefts = concat_map (λ (l : Literal). left_of l.atom) (map turned (merged c))

    go : (among ts (apply k empty) ≡ true) ⊎ (among lefts (apply k empty) ≡ true) → (among L (apply k empty) || among lefts (apply k empty)) ≡ true
    go (inl e) = or_left (among L (apply k empty)) (among lefts (apply k empty)) (among-all ts L (apply k empty) (add_terms-adds [] ts) e)
    go (inr e) = or_right (among L (apply k empty)) (among lefts (apply k empty)) e

-- of equalities at most one left side each
lefts-few : (c : Clause) → length (concat_map (λ (l : Literal). left_of l.atom) c) ≤ length c
lefts-few [] = omega arith
lefts-few (l ∷ c) = omega (arith, length-append (left_of l.atom) (concat_map (λ (l : Literal). left_of l.atom) c), one l.atom, lefts-few c)
  where
    one : (a : Atom) → length (left_of a) ≤ 1
    one (equal t u) = omega arith
    one (holds p ts) = omega arith

holders-few : (c : Clause) → is_within c ≡ true → length (holders c) ≤ 26
unfolding within_limits flatten variable_count
holders-few c h =
    let x : Bool = leb (length (clause_words c)) max_words in
    let y : Bool = leb (length c) max_literals in
    let z : Bool = leb (variable_count (flatten c)) max_variables in
    let m : Clause = map turned (merged c) in
    let literals : length c ≤ max_literals = leb-true (length c) max_literals (and_right x y (and_left (x && y) z h)) in
    let news : length (variables (merged c)) + length (lifted_terms m) ≤ max_variables = leb-true (variable_count (flatten c)) max_variables (and_right (x && y) z h) in
    omega (arith, length-append (lifted_terms m) (concat_map (λ (l : Literal). left_of l.atom) m), lefts-few m, length-map (merged c) turned, merged-length c)

-- Different constants among few terms are few.
module _ (t : Term) where
  abbrev others : List Term → List Term
  others us = select (λ u. not (same_term t u)) us

  others-fewer : (us : List Term) → length (others us) ≤ length us
  others-fewer [] = omega arith
  others-fewer (u ∷ us) = go (same_term t u) (others-fewer us)
    where
      go : (b : Bool) → length (others us) ≤ length us → length (cond (not b) (u ∷ others us) (others us)) ≤ suc (length us)
      go true h = omega arith
      go false h = omega arith

  others-less : (us : List Term) → among us t ≡ true → length (others us) < length us
  others-less [] h = absurd (false≢true h)
  others-less (u ∷ us) h = go (same_term t u) h (others-fewer us) (λ e. others-less us e)
    where
      go : (b : Bool) → (b || among us t) ≡ true → length (others us) ≤ length us → (among us t ≡ true → length (others us) < length us) → length (cond (not b) (u ∷ others us) (others us)) < suc (length us)
      go true h few ih = omega arith
      go false h few ih = let l : length (others us) < length us = ih h in omega arith

  others-kept : (s : Term) → same_term s t ≡ false → (us : List Term) → among us s ≡ true → among (others us) s ≡ true
  others-kept s n [] h = absurd (false≢true h)
  others-kept s n (u ∷ us) h = go (same_term t u) refl (or_cases (same_term s u) (among us s) h) (λ e. others-kept s n us e)
    where
      go : (b : Bool) → same_term t u ≡ b → (same_term s u ≡ true) ⊎ (among us s ≡ true) → (among us s ≡ true → among (others us) s ≡ true) → among (cond (not b) (u ∷ others us) (others us)) s ≡ true
      go true e (inl k) ih = absurd (both_false (same_term-of-≡ s t (same_term-true s u k ∙ sym (same_term-true t u e))) n)
      go true e (inr k) ih = ih k
      go false e (inl k) ih = or_left (same_term s u) (among (others us) s) k
      go false e (inr k) ih = or_right (same_term s u) (among (others us) s) (ih k)

few-constants : (n m : ℕ) (us : List Term) → ((i : ℕ) → i < m → among us (apply (n + i) empty) ≡ true) → m ≤ length us
few-constants n zero us h = omega arith
few-constants n (suc m) us h =
    let t : Term = apply (n + m) empty in
    let rest : m ≤ length (others t us) = few-constants n m (others t us) (λ i l. others-kept t (apply (n + i) empty) (different i l) us (h i (omega arith))) in
    let less : length (others t us) < length us = others-less t us (h m (omega arith)) in
    omega arith
  where
    different : (i : ℕ) → i < m → same_term (apply (n + i) empty) (apply (n + m) empty) ≡ false
    different i l = ap (λ (b : Bool). b && true) (eqb-false (n + i) (n + m) (λ e. omega arith))

-- The name of a term that is named stands in the shortened clause.
module _ (n : ℕ) (named : List Term) (t : Term) where
  abbrev place : ℕ
  place = n + place_or0 (place_that (same_term t) named)

  split-or : (xs ys : List Term) → among (xs ++ ys) t ≡ true → (among xs t ≡ true) ⊎ (among ys t ≡ true)
  split-or xs ys h = or_cases (among xs t) (among ys t) (sym (any_append (same_term t) xs ys) ∙ h)

  mutual
    term-shows : (u : Term) → among (term_named u) t ≡ true → mentions_term place (short_term n named u) ≡ true
    term-shows (variable x) h = absurd (false≢true h)
    term-shows (apply f us) h = go (is_nameable (apply f us)) h (λ e. terms-show us e)
      where
        go : (b : Bool) → among (cond b (apply f us ∷ []) (terms_named us)) t ≡ true → (among (terms_named us) t ≡ true → mentions_terms place (short_terms n named us) ≡ true)
            → mentions_term place (cond b (name_of n named (apply f us)) (apply f (short_terms n named us))) ≡ true
        go true h ih = only (or_cases (same_term t (apply f us)) false h)
          where
            only : (same_term t (apply f us) ≡ true) ⊎ (false ≡ true) → mentions_term place (name_of n named (apply f us)) ≡ true
            only (inl e) = ap (λ (u : Term). mentions_term place (name_of n named u)) (sym (same_term-true t (apply f us) e)) ∙ or_left (eqb place place && true) false (and-join (eqb place place) true (eqb_same place) refl)
            only (inr e) = absurd (false≢true e)
        go false h ih = or_right (eqb place f && is_empty (short_terms n named us)) (mentions_terms place (short_terms n named us)) (ih h)

    terms-show : (us : Terms) → among (terms_named us) t ≡ true → mentions_terms place (short_terms n named us) ≡ true
    terms-show empty h = absurd (false≢true h)
    terms-show (cons u us) h = go (split-or (term_named u) (terms_named us) h) (λ e. term-shows u e) (λ e. terms-show us e)
      where
        go : (among (term_named u) t ≡ true) ⊎ (among (terms_named us) t ≡ true) → (among (term_named u) t ≡ true → mentions_term place (short_term n named u) ≡ true)
            → (among (terms_named us) t ≡ true → mentions_terms place (short_terms n named us) ≡ true) → (mentions_term place (short_term n named u) || mentions_terms place (short_terms n named us)) ≡ true
        go (inl e) p q = or_left (mentions_term place (short_term n named u)) (mentions_terms place (short_terms n named us)) (p e)
        go (inr e) p q = or_right (mentions_term place (short_term n named u)) (mentions_terms place (short_terms n named us)) (q e)

  atom-shows : (a : Atom) → among (atom_named a) t ≡ true → mentions_atom place (short_atom n named a) ≡ true
  atom-shows (equal u v) h = go (split-or (term_named u) (term_named v) h)
    where
      go : (among (term_named u) t ≡ true) ⊎ (among (term_named v) t ≡ true) → (mentions_term place (short_term n named u) || mentions_term place (short_term n named v)) ≡ true
      go (inl e) = or_left (mentions_term place (short_term n named u)) (mentions_term place (short_term n named v)) (term-shows u e)
      go (inr e) = or_right (mentions_term place (short_term n named u)) (mentions_term place (short_term n named v)) (term-shows v e)
  atom-shows (holds p us) h = terms-show us h

  clause-shows : (c : Clause) → among (clause_named c) t ≡ true → mentions place (short_clause n named c) ≡ true
  clause-shows [] h = absurd (false≢true h)
  clause-shows (l ∷ c) h = go (split-or (atom_named l.atom) (clause_named c) h) (λ e. clause-shows c e)
    where
      go : (among (atom_named l.atom) t ≡ true) ⊎ (among (clause_named c) t ≡ true) → (among (clause_named c) t ≡ true → mentions place (short_clause n named c) ≡ true)
          → (mentions_atom place (short_atom n named l.atom) || mentions place (short_clause n named c)) ≡ true
      go (inl e) ih = or_left (mentions_atom place (short_atom n named l.atom)) (mentions place (short_clause n named c)) (atom-shows l.atom e)
      go (inr e) ih = or_right (mentions_atom place (short_atom n named l.atom)) (mentions place (short_clause n named c)) (ih e)

-- terms are among themselves
all_among : (us ts : List Term) → ((t : Term) → among ts t ≡ true → among us t ≡ true) → all (among us) ts ≡ true
all_among us [] f = refl
all_among us (t ∷ ts) f =
    and-join (among us t) (all (among us) ts) (f t (or_left (same_term t t) (among ts t) (same_term-same t))) (all_among us ts (λ u e. f u (or_right (same_term u t) (among ts u) e)))

-- the theorem
pub few-names : (n : ℕ) (c : Clause) → is_within (short_clause n (named_terms (c ∷ [])) c) ≡ true → length (named_terms (c ∷ [])) ≤ 26
unfolding named_terms
few-names n c h =
    let d : Clause = short_clause n (named_terms (c ∷ [])) c in
    let le : length (named_terms (c ∷ [])) ≤ length (holders d) = few-constants n (length (named_terms (c ∷ []))) (holders d) (λ i l. held (n + i) d (shows i l)) in
    omega (arith, holders-few d h)
  where
    -- each comes from the clause
    from-clause : all (among (clause_named c)) (named_terms (c ∷ [])) ≡ true
    from-clause =
        add_terms-all (among (clause_named c)) [] (clause_named c ++ []) refl
        (ap (all (among (clause_named c))) (append-nil (clause_named c)) ∙ all_among (clause_named c) (clause_named c) (λ t e. e))

    shows : (i : ℕ) → i < length (named_terms (c ∷ [])) → mentions (n + i) (short_clause n (named_terms (c ∷ [])) c) ≡ true
    shows i l =
        let t : Term = get_or (named_terms (c ∷ [])) i (variable 0) in
        ap (λ (o : Option ℕ). mentions (n + place_or0 o) (short_clause n (named_terms (c ∷ [])) c)) (sym (own-place (named_terms (c ∷ [])) i (named-different (c ∷ [])) l))
        ∙ clause-shows n (named_terms (c ∷ [])) t c (all-at (among (clause_named c)) (variable 0) (named_terms (c ∷ [])) i from-clause l)
