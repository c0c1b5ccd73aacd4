-- Lifted terms: each function term that stands as an argument or on the right is found among them, and so are the function terms within it.
use Prim.Native.Nat.{ℕ, ◌<◌}
use mathlib.Core.Path.{◌≡◌, refl, sym, ap, ◌∙◌}
use mathlib.Core.Bool.{Bool, true, false, cond, not, ◌&&◌, ◌||◌, false≢true}
use mathlib.Core.Option.{Option, some}
use mathlib.Core.List.{List, [], ◌∷◌, ◌++◌, map}
use lib.Dec.{eqb}
use lib.ListN.{length, get_or}
use Rattle.theory.specs.Lists.{all, concat_map, place_that}
use Rattle.theory.specs.Syntax.{Term, variable, apply, Terms, empty, cons, Atom, equal, holds, Literal, Clause}
use Rattle.theory.specs.Flattening.{turned_atom, turned, function_terms, all_function_terms, to_lift, same_term, same_terms, add_term, add_terms, lifted_terms, new, place_or0, variable_for}
use Rattle.theory.specs.Lifted.{among, covered, covered_all, covered_atom, is_apply, different}
use Rattle.theory.proofs.Tests.{eqb-true, eqb_same, not-true, both_false, false_of_not, and_left, and_right, and-join, or_left, or_right, or-false-left, or-false-right, or-false-join}
use Rattle.theory.proofs.Lists.{any_append, all_append, all-imply, all_map, all-concat_map}
use Rattle.theory.proofs.Finding.{place_that-some, any→place_that}

-- the test of two terms is their equality
mutual
  pub same_term-true : (t u : Term) → same_term t u ≡ true → t ≡ u
  same_term-true (variable x) (variable y) e = ap variable (eqb-true x y e)
  same_term-true (variable x) (apply h us) e = absurd (false≢true e)
  same_term-true (apply f ts) (variable y) e = absurd (false≢true e)
  same_term-true (apply f ts) (apply h us) e =
      let p : f ≡ h = eqb-true f h (and_left (eqb f h) (same_terms ts us) e) in
      let q : ts ≡ us = same_terms-true ts us (and_right (eqb f h) (same_terms ts us) e) in
      cc

  pub same_terms-true : (ts us : Terms) → same_terms ts us ≡ true → ts ≡ us
  same_terms-true empty empty e = refl
  same_terms-true empty (cons u us) e = absurd (false≢true e)
  same_terms-true (cons t ts) empty e = absurd (false≢true e)
  same_terms-true (cons t ts) (cons u us) e =
      let p : t ≡ u = same_term-true t u (and_left (same_term t u) (same_terms ts us) e) in
      let q : ts ≡ us = same_terms-true ts us (and_right (same_term t u) (same_terms ts us) e) in
      cc

mutual
  pub same_term-same : (t : Term) → same_term t t ≡ true
  same_term-same (variable x) = eqb_same x
  same_term-same (apply f ts) = and-join (eqb f f) (same_terms ts ts) (eqb_same f) (same_terms-same ts)

  pub same_terms-same : (ts : Terms) → same_terms ts ts ≡ true
  same_terms-same empty = refl
  same_terms-same (cons t ts) = and-join (same_term t t) (same_terms ts ts) (same_term-same t) (same_terms-same ts)

pub same_term-of-≡ : (t u : Term) → t ≡ u → same_term t u ≡ true
same_term-of-≡ t u e = ap (same_term t) (sym e) ∙ same_term-same t

-- adding a term keeps those found before, and the term is among them then
add_term-keeps : (found : List Term) (t u : Term) → among found u ≡ true → among (add_term found t) u ≡ true
add_term-keeps found t u h = go (among found t)
  where
    go : (b : Bool) → among (cond b found (found ++ (t ∷ []))) u ≡ true
    go true = h
    go false = any_append (same_term u) found (t ∷ []) ∙ or_left (among found u) (among (t ∷ []) u) h

add_term-adds : (found : List Term) (t : Term) → among (add_term found t) t ≡ true
add_term-adds found t = go (among found t) refl
  where
    go : (b : Bool) → among found t ≡ b → among (cond b found (found ++ (t ∷ []))) t ≡ true
    go true e = e
    go false e = any_append (same_term t) found (t ∷ []) ∙ or_right (among found t) (same_term t t || false) (or_left (same_term t t) false (same_term-same t))

pub add_terms-keeps : (found ts : List Term) (u : Term) → among found u ≡ true → among (add_terms found ts) u ≡ true
add_terms-keeps found [] u h = h
add_terms-keeps found (t ∷ ts) u h = add_terms-keeps (add_term found t) ts u (add_term-keeps found t u h)

-- the terms added are among the terms found
pub add_terms-adds : (found ts : List Term) → all (among (add_terms found ts)) ts ≡ true
add_terms-adds found [] = refl
add_terms-adds found (t ∷ ts) =
    let L : List Term = add_terms (add_term found t) ts in
    and-join (among L t) (all (among L) ts) (add_terms-keeps (add_term found t) ts t (add_term-adds found t)) (add_terms-adds (add_term found t) ts)

-- a test that the terms found before and the terms added pass, all pass
pub add_terms-all : (p : Term → Bool) (found ts : List Term) → all p found ≡ true → all p ts ≡ true → all p (add_terms found ts) ≡ true
add_terms-all p found [] h k = h
add_terms-all p found (t ∷ ts) h k = add_terms-all p (add_term found t) ts (go (among found t)) (and_right (p t) (all p ts) k)
  where
    go : (b : Bool) → all p (cond b found (found ++ (t ∷ []))) ≡ true
    go true = h
    go false = all_append p found (t ∷ []) ∙ and-join (all p found) (p t && true) h (and-join (p t) true (and_left (p t) (all p ts) k) refl)

-- the place of a term among the lifted terms
pub record Place (lifted : List Term) (t : Term) : Type 0 where
  pub at : ℕ
  pub found : place_that (same_term t) lifted ≡ some at
  pub below : at < length lifted
  pub there : get_or lifted at (variable 0) ≡ t

-- a term that is among them has one
pub place : (lifted : List Term) (t : Term) → among lifted t ≡ true → Place lifted t
place lifted t h =
    let r = any→place_that (same_term t) lifted h in
    let k = place_that-some (same_term t) lifted r.0 (variable 0) r.1 in
    record { at = r.0; found = r.1; below = k.0; there = sym (same_term-true t (get_or lifted r.0 (variable 0)) k.1) }

-- its new variable is that of the place
pub variable_for-place : (lifted : List Term) (f : ℕ) (ts : Terms) (q : Place lifted (apply f ts)) → variable_for lifted (apply f ts) ≡ new q.at
variable_for-place lifted f ts q = ap (λ (o : Option ℕ). new (place_or0 o)) q.found

-- what is lifted from an atom comes from its arguments and its right side: those pass the tests p and ps
abbrev pub Sources : (Term → Bool) → (Terms → Bool) → Atom → Type 0
Sources p ps (equal (variable x) u) = Unit {0}
Sources p ps (equal (apply f ts) u) = (ps ts ≡ true) × (p u ≡ true)
Sources p ps (holds q ts) = ps ts ≡ true

-- A test p on terms and ps on lists of terms that goes down to arguments: the function terms within a term that passes it pass it.
module _ (p : Term → Bool) (ps : Terms → Bool) (down : (f : ℕ) (ts : Terms) → p (apply f ts) ≡ true → ps ts ≡ true)
    (first : (t : Term) (ts : Terms) → ps (cons t ts) ≡ true → p t ≡ true) (rest : (t : Term) (ts : Terms) → ps (cons t ts) ≡ true → ps ts ≡ true) where
  mutual
    pub function_terms-all : (t : Term) → p t ≡ true → all p (function_terms t) ≡ true
    function_terms-all (variable x) h = refl
    function_terms-all (apply f ts) h =
        all_append p (all_function_terms ts) (apply f ts ∷ [])
        ∙ and-join (all p (all_function_terms ts)) (p (apply f ts) && true) (all_function_terms-all ts (down f ts h)) (and-join (p (apply f ts)) true h refl)

    pub all_function_terms-all : (ts : Terms) → ps ts ≡ true → all p (all_function_terms ts) ≡ true
    all_function_terms-all empty h = refl
    all_function_terms-all (cons t ts) h =
        all_append p (function_terms t) (all_function_terms ts)
        ∙ and-join (all p (function_terms t)) (all p (all_function_terms ts)) (function_terms-all t (first t ts h)) (all_function_terms-all ts (rest t ts h))

  pub to_lift-all : (a : Atom) → Sources p ps a → all p (to_lift a) ≡ true
  to_lift-all (equal (variable x) u) h = refl
  to_lift-all (equal (apply f ts) u) h =
      all_append p (all_function_terms ts) (function_terms u)
      ∙ and-join (all p (all_function_terms ts)) (all p (function_terms u)) (all_function_terms-all ts h.0) (function_terms-all u h.1)
  to_lift-all (holds q ts) h = all_function_terms-all ts h

-- a test that the lifted terms of each literal pass, all lifted terms of the clause pass
pub lifted_terms-all : (p : Term → Bool) (c : Clause) → all (λ (l : Literal). all p (to_lift l.atom)) c ≡ true → all p (lifted_terms c) ≡ true
unfolding lifted_terms
lifted_terms-all p c h =
    add_terms-all p [] (concat_map (λ (l : Literal). to_lift l.atom) c) refl (all-concat_map p (λ (l : Literal). to_lift l.atom) c ∙ h)

module _ (lifted : List Term) where
  covered-split : (xs ys : List Term) → all (among lifted) (xs ++ ys) ≡ true → (all (among lifted) xs ≡ true) × (all (among lifted) ys ≡ true)
  covered-split xs ys h =
      let k : (all (among lifted) xs && all (among lifted) ys) ≡ true = sym (all_append (among lifted) xs ys) ∙ h in
      (and_left (all (among lifted) xs) (all (among lifted) ys) k, and_right (all (among lifted) xs) (all (among lifted) ys) k)

  pub covered-arguments : (f : ℕ) (ts : Terms) → covered lifted (apply f ts) ≡ true → covered_all lifted ts ≡ true
  covered-arguments f ts h = (covered-split (all_function_terms ts) (apply f ts ∷ []) h).0

  pub covered-among : (f : ℕ) (ts : Terms) → covered lifted (apply f ts) ≡ true → among lifted (apply f ts) ≡ true
  covered-among f ts h = and_left (among lifted (apply f ts)) true (covered-split (all_function_terms ts) (apply f ts ∷ []) h).1

  pub covered-first : (t : Term) (ts : Terms) → covered_all lifted (cons t ts) ≡ true → covered lifted t ≡ true
  covered-first t ts h = (covered-split (function_terms t) (all_function_terms ts) h).0

  pub covered-rest : (t : Term) (ts : Terms) → covered_all lifted (cons t ts) ≡ true → covered_all lifted ts ≡ true
  covered-rest t ts h = (covered-split (function_terms t) (all_function_terms ts) h).1

  pub covered-left : (f : ℕ) (ts : Terms) (u : Term) → covered_atom lifted (equal (apply f ts) u) ≡ true → covered_all lifted ts ≡ true
  covered-left f ts u h = (covered-split (all_function_terms ts) (function_terms u) h).0

  pub covered-right : (f : ℕ) (ts : Terms) (u : Term) → covered_atom lifted (equal (apply f ts) u) ≡ true → covered lifted u ≡ true
  covered-right f ts u h = (covered-split (all_function_terms ts) (function_terms u) h).1

  covered-sources : (a : Atom) → covered_atom lifted a ≡ true → Sources (covered lifted) (covered_all lifted) a
  covered-sources (equal (variable x) u) h = tt
  covered-sources (equal (apply f ts) u) h = (covered-left f ts u h, covered-right f ts u h)
  covered-sources (holds q ts) h = h

  covered_atom-all : (a : Atom) → covered_atom lifted a ≡ true → all (covered lifted) (to_lift a) ≡ true
  covered_atom-all a h = to_lift-all (covered lifted) (covered_all lifted) covered-arguments covered-first covered-rest a (covered-sources a h)

-- what is to be lifted from a clause is among its lifted terms
pub lifted_terms-atoms : (c : Clause) → all (λ (l : Literal). covered_atom (lifted_terms c) l.atom) c ≡ true
unfolding lifted_terms
lifted_terms-atoms c =
    let ts : List Term = concat_map (λ (l : Literal). to_lift l.atom) c in
    sym (all-concat_map (among (add_terms [] ts)) (λ (l : Literal). to_lift l.atom) c) ∙ add_terms-adds [] ts

-- the same of a clause before its literals are turned
pub lifted_terms-turned : (c : Clause) → all (λ (l : Literal). covered_atom (lifted_terms (map turned c)) (turned_atom l.atom)) c ≡ true
lifted_terms-turned c = sym (all_map (λ (l : Literal). covered_atom (lifted_terms (map turned c)) l.atom) turned c) ∙ lifted_terms-atoms (map turned c)

-- and so are the function terms within a lifted term
pub lifted_terms-covered : (c : Clause) → all (covered (lifted_terms c)) (lifted_terms c) ≡ true
lifted_terms-covered c =
    lifted_terms-all (covered (lifted_terms c)) c
    (all-imply (λ (l : Literal). covered_atom (lifted_terms c) l.atom) (λ (l : Literal). all (covered (lifted_terms c)) (to_lift l.atom)) c
    (λ l. covered_atom-all (lifted_terms c) l.atom) (lifted_terms-atoms c))

mutual
  function_terms-apply : (t : Term) → all is_apply (function_terms t) ≡ true
  function_terms-apply (variable x) = refl
  function_terms-apply (apply f ts) =
      all_append is_apply (all_function_terms ts) (apply f ts ∷ []) ∙ and-join (all is_apply (all_function_terms ts)) true (all_function_terms-apply ts) refl

  all_function_terms-apply : (ts : Terms) → all is_apply (all_function_terms ts) ≡ true
  all_function_terms-apply empty = refl
  all_function_terms-apply (cons t ts) =
      all_append is_apply (function_terms t) (all_function_terms ts)
      ∙ and-join (all is_apply (function_terms t)) (all is_apply (all_function_terms ts)) (function_terms-apply t) (all_function_terms-apply ts)

different-snoc : (ts : List Term) (t : Term) → among ts t ≡ false → different ts ≡ true → different (ts ++ (t ∷ [])) ≡ true
different-snoc [] t h k = refl
different-snoc (u ∷ ts) t h k =
    let a : among ts u ≡ false = false_of_not (among ts u) (and_left (not (among ts u)) (different ts) k) in
    let b : same_term u t ≡ false =
    not-true (same_term u t) (λ e. both_false (same_term-of-≡ t u (sym (same_term-true u t e))) (or-false-left (same_term t u) (among ts t) h)) in
    let n : among (ts ++ (t ∷ [])) u ≡ false =
    any_append (same_term u) ts (t ∷ []) ∙ or-false-join (among ts u) (same_term u t || false) a (or-false-join (same_term u t) false b refl) in
    and-join (not (among (ts ++ (t ∷ [])) u)) (different (ts ++ (t ∷ []))) (ap not n)
    (different-snoc ts t (or-false-right (same_term t u) (among ts t) h) (and_right (not (among ts u)) (different ts) k))

pub add_terms-different : (found ts : List Term) → different found ≡ true → different (add_terms found ts) ≡ true
add_terms-different found [] h = h
add_terms-different found (t ∷ ts) h = add_terms-different (add_term found t) ts (go (among found t) refl)
  where
    go : (b : Bool) → among found t ≡ b → different (cond b found (found ++ (t ∷ []))) ≡ true
    go true e = h
    go false e = different-snoc found t e h
