-- The variables of a clause are the letters of its words, and step 1 brings in no new one.
use Prim.Native.Nat.{ℕ, zero, suc, ◌≤◌}
use mathlib.Core.Path.{◌≡◌, refl, sym, ap, ◌∙◌}
use mathlib.Core.Bool.{Bool, true, false, cond, ◌&&◌}
use mathlib.Core.Option.{Option, none, some, some-injective}
use mathlib.Core.List.{[], ◌∷◌, map}
use native.Mathlib.Nat.{le_refl}
use native.Mathlib.Omega.{arith}
use lib.Dec.{eqb}
use lib.ListN.{length, length-map}
use Rattle.theory.specs.Lists.{all, concat_map}
use Rattle.theory.specs.Syntax.{Term, variable, apply, Terms, empty, cons, Atom, equal, holds, Literal, Clause, term_variables, terms_variables, atom_variables, variables}
use Rattle.theory.specs.Grammar.{sign, term_words, terms_words, atom_words, clause_words}
use Rattle.theory.specs.WellFormed.{letter_passes}
use Rattle.theory.specs.Flattening.{rename, rename_term, rename_terms, rename_atom, rename_literal, unequal_variables, Unequal, leftmost_at, leftmost, merge_found, merge, merged}
use Rattle.theory.proofs.Tests.{and_left, and_right, and-join}
use Rattle.theory.proofs.Lists.{all_append, all-concat_map, all-cong, all-distinct}
use Rattle.theory.proofs.Merging.{leftmost-length}

module _ (q : ℕ → Bool) where
  -- every variable of the clause passes it
  abbrev pub variables_pass : Clause → Bool
  variables_pass c = all (λ (l : Literal). all q (atom_variables l.atom)) c

  mutual
    term-letters : (t : Term) → all (letter_passes q) (term_words t) ≡ all q (term_variables t)
    term-letters (variable x) = refl
    term-letters (apply f ts) = terms-letters ts

    terms-letters : (ts : Terms) → all (letter_passes q) (terms_words ts) ≡ all q (terms_variables ts)
    terms-letters empty = refl
    terms-letters (cons t ts) =
        all_append (letter_passes q) (term_words t) (terms_words ts)
        ∙ ap (λ (b : Bool). b && all (letter_passes q) (terms_words ts)) (term-letters t)
        ∙ ap (λ (b : Bool). all q (term_variables t) && b) (terms-letters ts)
        ∙ sym (all_append q (term_variables t) (terms_variables ts))

  atom-letters : (a : Atom) → all (letter_passes q) (atom_words a) ≡ all q (atom_variables a)
  atom-letters (equal t u) =
      all_append (letter_passes q) (term_words t) (term_words u)
      ∙ ap (λ (b : Bool). b && all (letter_passes q) (term_words u)) (term-letters t)
      ∙ ap (λ (b : Bool). all q (term_variables t) && b) (term-letters u)
      ∙ sym (all_append q (term_variables t) (term_variables u))
  atom-letters (holds p ts) = terms-letters ts

  -- a test on the letters of a clause's words is the test on its variables
  pub clause-letters : (c : Clause) → all (letter_passes q) (clause_words c) ≡ variables_pass c
  clause-letters c =
      all-concat_map (letter_passes q) (λ (l : Literal). sign l.sign ∷ atom_words l.atom) c
      ∙ all-cong (λ (l : Literal). all (letter_passes q) (atom_words l.atom)) (λ (l : Literal). all q (atom_variables l.atom)) c (λ l. atom-letters l.atom)

  pub variables-pass : (c : Clause) → variables_pass c ≡ true → all q (variables c) ≡ true
  variables-pass c h =
      all-distinct q (concat_map (λ (l : Literal). atom_variables l.atom) c) (all-concat_map q (λ (l : Literal). atom_variables l.atom) c ∙ h)

  module _ (x y : ℕ) (hx : q x ≡ true) where
    rename-passes : (z : ℕ) → q z ≡ true → q (rename x y z) ≡ true
    rename-passes z h = go (eqb z y)
      where
        go : (b : Bool) → q (cond b x z) ≡ true
        go true = hx
        go false = h

    mutual
      rename-term : (t : Term) → all q (term_variables t) ≡ true → all q (term_variables (rename_term x y t)) ≡ true
      rename-term (variable z) h = and-join (q (rename x y z)) true (rename-passes z (and_left (q z) true h)) refl
      rename-term (apply f ts) h = rename-terms ts h

      rename-terms : (ts : Terms) → all q (terms_variables ts) ≡ true → all q (terms_variables (rename_terms x y ts)) ≡ true
      rename-terms empty h = refl
      rename-terms (cons t ts) h =
          let k : (all q (term_variables t) && all q (terms_variables ts)) ≡ true = sym (all_append q (term_variables t) (terms_variables ts)) ∙ h in
          all_append q (term_variables (rename_term x y t)) (terms_variables (rename_terms x y ts))
          ∙ and-join (all q (term_variables (rename_term x y t))) (all q (terms_variables (rename_terms x y ts)))
          (rename-term t (and_left (all q (term_variables t)) (all q (terms_variables ts)) k)) (rename-terms ts (and_right (all q (term_variables t)) (all q (terms_variables ts)) k))

    rename-atom : (a : Atom) → all q (atom_variables a) ≡ true → all q (atom_variables (rename_atom x y a)) ≡ true
    rename-atom (equal t u) h =
        let k : (all q (term_variables t) && all q (term_variables u)) ≡ true = sym (all_append q (term_variables t) (term_variables u)) ∙ h in
        all_append q (term_variables (rename_term x y t)) (term_variables (rename_term x y u))
        ∙ and-join (all q (term_variables (rename_term x y t))) (all q (term_variables (rename_term x y u)))
        (rename-term t (and_left (all q (term_variables t)) (all q (term_variables u)) k)) (rename-term u (and_right (all q (term_variables t)) (all q (term_variables u)) k))
    rename-atom (holds p ts) h = rename-terms ts h

    rename-clause : (c : Clause) → variables_pass c ≡ true → variables_pass (map (rename_literal x y) c) ≡ true
    rename-clause [] h = refl
    rename-clause (l ∷ c) h =
        and-join (all q (atom_variables (rename_atom x y l.atom))) (variables_pass (map (rename_literal x y) c))
        (rename-atom l.atom (and_left (all q (atom_variables l.atom)) (variables_pass c) h)) (rename-clause c (and_right (all q (atom_variables l.atom)) (variables_pass c) h))

  unequal-passes : (b : Bool) (a : Atom) (p : ℕ × ℕ) → unequal_variables b a ≡ some p → all q (atom_variables a) ≡ true → q p.0 ≡ true
  unequal-passes false (equal (variable x) (variable y)) p e h = ap (λ (p : ℕ × ℕ). q p.0) (sym (some-injective (x, y) p e)) ∙ and_left (q x) (q y && true) h
  unequal-passes false (equal (variable x) (apply f ts)) p e h = let z : ◌≡◌ {A = ℕ} 0 1 = cc in absurd (omega arith)
  unequal-passes false (equal (apply f ts) u) p e h = let z : ◌≡◌ {A = ℕ} 0 1 = cc in absurd (omega arith)
  unequal-passes false (holds i ts) p e h = let z : ◌≡◌ {A = ℕ} 0 1 = cc in absurd (omega arith)
  unequal-passes true a p e h = let z : ◌≡◌ {A = ℕ} 0 1 = cc in absurd (omega arith)

  leftmost-passes : (c : Clause) (r : Unequal) → leftmost c ≡ some r → variables_pass c ≡ true → (q r.x ≡ true) × (variables_pass r.rest ≡ true)
  leftmost-passes [] r e h = let z : ◌≡◌ {A = ℕ} 0 1 = cc in absurd (omega arith)
  leftmost-passes (l ∷ c) r e h = go (unequal_variables l.sign l.atom) refl (leftmost c) refl e (λ u k. leftmost-passes c u k tail)
    where
      here : all q (atom_variables l.atom) ≡ true
      here = and_left (all q (atom_variables l.atom)) (variables_pass c) h

      tail : variables_pass c ≡ true
      tail = and_right (all q (atom_variables l.atom)) (variables_pass c) h

      go : (o : Option (ℕ × ℕ)) → unequal_variables l.sign l.atom ≡ o → (m : Option Unequal) → leftmost c ≡ m → leftmost_at l c o m ≡ some r
          → ((u : Unequal) → leftmost c ≡ some u → (q u.x ≡ true) × (variables_pass u.rest ≡ true)) → (q r.x ≡ true) × (variables_pass r.rest ≡ true)
      go (some p) k m j z ih =
          let e : record { x = p.0; y = p.1; rest = c } ≡ r = some-injective (record { x = p.0; y = p.1; rest = c }) r z in
          (ap (λ (r : Unequal). q r.x) (sym e) ∙ unequal-passes l.sign l.atom p k here, ap (λ (r : Unequal). variables_pass r.rest) (sym e) ∙ tail)
      go none k none j z ih = let z : ◌≡◌ {A = ℕ} 0 1 = cc in absurd (omega arith)
      go none k (some u) j z ih =
          let e : record { x = u.x; y = u.y; rest = l ∷ u.rest } ≡ r = some-injective (record { x = u.x; y = u.y; rest = l ∷ u.rest }) r z in
          let s = ih u j in (
            ap (λ (r : Unequal). q r.x) (sym e) ∙ s.0,
            ap (λ (r : Unequal). variables_pass r.rest) (sym e) ∙ and-join (all q (atom_variables l.atom)) (variables_pass u.rest) here s.1,
          )

  merge-passes : (n : ℕ) (c : Clause) → variables_pass c ≡ true → variables_pass (merge n c) ≡ true
  merge-passes zero c h = h
  merge-passes (suc n) c h = go (leftmost c) refl (λ d k. merge-passes n d k)
    where
      go : (o : Option Unequal) → leftmost c ≡ o → ((d : Clause) → variables_pass d ≡ true → variables_pass (merge n d) ≡ true) → variables_pass (merge_found (merge n) c o) ≡ true
      go none e ih = h
      go (some r) e ih = let s = leftmost-passes c r e h in ih (map (rename_literal r.x r.y) r.rest) (rename-clause r.x r.y s.0 r.rest s.1)

  -- step 1 brings in no new variable
  pub merged-passes : (c : Clause) → variables_pass c ≡ true → variables_pass (merged c) ≡ true
  unfolding merged
  merged-passes c h = merge-passes (length c) c h

merge-length : (n : ℕ) (c : Clause) → length (merge n c) ≤ length c
merge-length zero c = le_refl (length c)
merge-length (suc n) c = go (leftmost c) refl (λ d. merge-length n d)
  where
    go : (o : Option Unequal) → leftmost c ≡ o → ((d : Clause) → length (merge n d) ≤ length d) → length (merge_found (merge n) c o) ≤ length c
    go none e ih = le_refl (length c)
    go (some r) e ih =
        let d : Clause = map (rename_literal r.x r.y) r.rest in
        omega (arith, ih d, length-map r.rest (rename_literal r.x r.y), leftmost-length c r e)

-- nor a new literal
pub merged-length : (c : Clause) → length (merged c) ≤ length c
unfolding merged
merged-length c = merge-length (length c) c
