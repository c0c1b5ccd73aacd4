-- A place stands for one term: among terms over the variables xs whose function terms are found.
use Prim.Native.Nat.{ℕ, suc, ◌<◌}
use mathlib.Core.Path.{◌≡◌, refl, sym, ap, ◌∙◌}
use mathlib.Core.Bool.{true}
use mathlib.Core.Option.{some}
use mathlib.Core.List.{List}
use native.Mathlib.Omega.{arith}
use lib.Dec.{eqb}
use lib.ListN.{length, get_or, drop, length-map}
use Rattle.theory.specs.Lists.{elem, place_that}
use Rattle.theory.specs.Syntax.{Term, variable, apply, Terms, empty, cons, count, term_variables, terms_variables}
use Rattle.theory.specs.Flattening.{place_or0, variable_for, variables_for}
use Rattle.theory.specs.Lifted.{covered, covered_all, within}
use Rattle.theory.proofs.Tests.{eqb-true, and_left}
use Rattle.theory.proofs.Finding.{place_that-some, any→place_that}
use Rattle.theory.proofs.Distinct.{elem-any}
use Rattle.theory.proofs.LiftedTerms.{place, covered-among, covered-first, covered-rest}
use Rattle.theory.proofs.FlatForm.{length-variables_for, within-left, within-right}
use Rattle.lifting.specs.Places.{place_in, places}

pub length-places : (xs : List ℕ) (found : List Term) (ts : Terms) → length (places xs found ts) ≡ count ts
length-places xs found ts = length-map (variables_for found ts) (place_in xs) ∙ length-variables_for found ts

-- a variable's place is among the clause's own, and it is the one there
pub record OwnPlace (xs : List ℕ) (x : ℕ) : Type 0 where
  pub at : ℕ
  pub found : place_that (eqb x) xs ≡ some at
  pub below : at < length xs
  pub there : get_or xs at 0 ≡ x

pub own-place : (xs : List ℕ) (x : ℕ) → elem x xs ≡ true → OwnPlace xs x
own-place xs x e =
    let r = any→place_that (eqb x) xs (sym (elem-any x xs) ∙ e) in
    let s = place_that-some (eqb x) xs r.0 0 r.1 in
    record { at = r.0; found = r.1; below = s.0; there = sym (eqb-true x (get_or xs r.0 0) s.1) }

module _ (xs : List ℕ) (found : List Term) where
  -- equal places stand for equal terms
  place-inj : (t u : Term) → covered found t ≡ true → covered found u ≡ true → within xs (term_variables t) ≡ true → within xs (term_variables u) ≡ true
      → place_in xs (variable_for found t) ≡ place_in xs (variable_for found u) → t ≡ u
  place-inj (variable x) (variable y) a b h k e =
      let p = own-place xs x (and_left (elem x xs) true h) in
      let q = own-place xs y (and_left (elem y xs) true k) in
      let i : p.at ≡ q.at = sym (ap place_or0 p.found) ∙ e ∙ ap place_or0 q.found in
      ap variable (sym p.there ∙ ap (λ (i : ℕ). get_or xs i 0) i ∙ q.there)
  place-inj (variable x) (apply f us) a b h k e =
      let p = own-place xs x (and_left (elem x xs) true h) in
      absurd (omega (arith, e, ap place_or0 p.found, p.below))
  place-inj (apply f ts) (variable y) a b h k e =
      let q = own-place xs y (and_left (elem y xs) true k) in
      absurd (omega (arith, e, ap place_or0 q.found, q.below))
  place-inj (apply f ts) (apply d us) a b h k e =
      let p = place found (apply f ts) (covered-among found f ts a) in
      let q = place found (apply d us) (covered-among found d us b) in
      let i : p.at ≡ q.at = omega (arith, e, ap place_or0 p.found, ap place_or0 q.found) in
      sym p.there ∙ ap (λ (i : ℕ). get_or found i (variable 0)) i ∙ q.there

  pub places-inj : (ts us : Terms) → covered_all found ts ≡ true → covered_all found us ≡ true → within xs (terms_variables ts) ≡ true → within xs (terms_variables us) ≡ true
      → places xs found ts ≡ places xs found us → ts ≡ us
  places-inj empty empty a b h k e = refl
  places-inj empty (cons u us) a b h k e = let z : ◌≡◌ {A = ℕ} 0 (suc (length (places xs found us))) = ap length e in absurd (omega arith)
  places-inj (cons t ts) empty a b h k e = let z : ◌≡◌ {A = ℕ} (suc (length (places xs found ts))) 0 = ap length e in absurd (omega arith)
  places-inj (cons t ts) (cons u us) a b h k e =
      let p : t ≡ u =
      place-inj t u (covered-first found t ts a) (covered-first found u us b) (within-left xs (term_variables t) (terms_variables ts) h) (within-left xs (term_variables u) (terms_variables us) k) (ap (λ (l : List ℕ). get_or l 0 0) e) in
      let q : ts ≡ us =
      places-inj ts us (covered-rest found t ts a) (covered-rest found u us b) (within-right xs (term_variables t) (terms_variables ts) h) (within-right xs (term_variables u) (terms_variables us) k) (ap (λ (l : List ℕ). drop 1 l) e) in
      cc
