-- Laws of finding: the first element of a list that passes a test, and its place.
use Prim.Native.Nat.{ℕ, zero, suc, ◌<◌}
use mathlib.Core.Path.{◌≡◌, refl, sym, ap, ◌∙◌}
use mathlib.Core.Bool.{Bool, true, false, not, ◌&&◌, ◌||◌, false≢true}
use mathlib.Core.Option.{Option, none, some, some-injective}
use mathlib.Core.List.{List, [], ◌∷◌, ◌++◌}
use native.Mathlib.Omega.{arith}
use lib.ListN.{length, get_or}
use Rattle.theory.specs.Lists.{any, all, first_that, place_at, place_that}
use Rattle.theory.proofs.Tests.{or-false-left, or-false-right}

module _ {A : Type 0} where
  pub first_that-some : (p : A → Bool) (xs : List A) (y : A) → first_that p xs ≡ some y → p y ≡ true
  first_that-some p [] y e = cc
  first_that-some p (x ∷ xs) y e = go (p x) refl e (λ k. first_that-some p xs y k)
    where
      go : (b : Bool) → p x ≡ b → ◌≡◌ {A = Option A} (elim b [ true ↦ some x | false ↦ first_that p xs ]) (some y) → (first_that p xs ≡ some y → p y ≡ true) → p y ≡ true
      go true h k ih = ap p (sym (some-injective x y k)) ∙ h
      go false h k ih = ih k

  -- no element fails the test exactly if all pass it
  pub first_that-none : (p : A → Bool) (xs : List A) → first_that (λ x. not (p x)) xs ≡ none → all p xs ≡ true
  first_that-none p [] e = refl
  first_that-none p (x ∷ xs) e = go (p x) e (λ k. first_that-none p xs k)
    where
      go : (b : Bool) → ◌≡◌ {A = Option A} (elim (not b) [ true ↦ some x | false ↦ first_that (λ x. not (p x)) xs ]) none
          → (first_that (λ x. not (p x)) xs ≡ none → all p xs ≡ true) → (b && all p xs) ≡ true
      go true k ih = ih k
      go false k ih = cc

  pub none-first_that : (p : A → Bool) (xs : List A) → all p xs ≡ true → first_that (λ x. not (p x)) xs ≡ none
  none-first_that p [] h = refl
  none-first_that p (x ∷ xs) h = go (p x) h (λ k. none-first_that p xs k)
    where
      go : (b : Bool) → (b && all p xs) ≡ true → (all p xs ≡ true → first_that (λ x. not (p x)) xs ≡ none)
          → ◌≡◌ {A = Option A} (elim (not b) [ true ↦ some x | false ↦ first_that (λ x. not (p x)) xs ]) none
      go true k ih = ih k
      go false k ih = absurd (false≢true k)

  -- the element at the place found passes the test, and those before it fail it
  pub place_that-some : (p : A → Bool) (xs : List A) (i : ℕ) (d : A) → place_that p xs ≡ some i
      → (i < length xs) × (p (get_or xs i d) ≡ true) × ((j : ℕ) → j < i → p (get_or xs j d) ≡ false)
  place_that-some p [] i d e = let z : ◌≡◌ {A = ℕ} 0 1 = cc in absurd (omega arith)
  place_that-some p (x ∷ xs) i d e = go i (p x) refl (place_that p xs) refl e (λ j k. place_that-some p xs j d k)
    where
      go : (i : ℕ) (b : Bool) → p x ≡ b → (o : Option ℕ) → place_that p xs ≡ o → place_at b o ≡ some i
          → ((j : ℕ) → place_that p xs ≡ some j → (j < length xs) × (p (get_or xs j d) ≡ true) × ((k : ℕ) → k < j → p (get_or xs k d) ≡ false))
          → (i < suc (length xs)) × (p (get_or (x ∷ xs) i d) ≡ true) × ((j : ℕ) → j < i → p (get_or (x ∷ xs) j d) ≡ false)
      go zero true h o k z ih = (omega arith, h, λ j l. absurd (omega arith))
      go (suc i) true h o k z ih = let q : ◌≡◌ {A = ℕ} 0 (suc i) = some-injective 0 (suc i) z in absurd (omega arith)
      go i false h none k z ih = let q : ◌≡◌ {A = ℕ} 0 1 = cc in absurd (omega arith)
      go zero false h (some j) k z ih = let q : ◌≡◌ {A = ℕ} (suc j) 0 = some-injective (suc j) 0 z in absurd (omega arith)
      go (suc i) false h (some j) k z ih =
          let q : ◌≡◌ {A = ℕ} (suc j) (suc i) = some-injective (suc j) (suc i) z in
          let e : j ≡ i = omega arith in
          let r = ih i (k ∙ ap {B = Option ℕ} some e) in
          (omega (arith, r.0), r.1, earlier r.2)
        where
          earlier : ((j : ℕ) → j < i → p (get_or xs j d) ≡ false) → (j : ℕ) → j < suc i → p (get_or (x ∷ xs) j d) ≡ false
          earlier f zero l = h
          earlier f (suc j) l = f j (omega arith)

  -- a place is found where some element passes the test
  pub any→place_that : (p : A → Bool) (xs : List A) → any p xs ≡ true → (i : ℕ) × (place_that p xs ≡ some i)
  any→place_that p [] h = absurd (false≢true h)
  any→place_that p (x ∷ xs) h = go (p x) h (λ k. any→place_that p xs k)
    where
      go : (b : Bool) → (b || any p xs) ≡ true → (any p xs ≡ true → (i : ℕ) × (place_that p xs ≡ some i)) → (i : ℕ) × (place_at b (place_that p xs) ≡ some i)
      go true k ih = (0, refl)
      go false k ih = let r = ih k in (suc r.0, ap (place_at false) r.1)

  pub place_that-none : (p : A → Bool) (xs : List A) → place_that p xs ≡ none → any p xs ≡ false
  place_that-none p [] e = refl
  place_that-none p (x ∷ xs) e = go (p x) (place_that p xs) refl e (λ k. place_that-none p xs k)
    where
      go : (b : Bool) (o : Option ℕ) → place_that p xs ≡ o → place_at b o ≡ none → (place_that p xs ≡ none → any p xs ≡ false) → (b || any p xs) ≡ false
      go true o k z ih = cc
      go false none k z ih = ih k
      go false (some j) k z ih = cc

  -- one list after another: a place found in the first is kept, and else one element more is found where it passes the test
  pub place_that-append : (p : A → Bool) (xs ys : List A) (i : ℕ) → place_that p xs ≡ some i → place_that p (xs ++ ys) ≡ some i
  place_that-append p [] ys i e = let z : ◌≡◌ {A = ℕ} 0 1 = cc in absurd (omega arith)
  place_that-append p (x ∷ xs) ys i e = go i (p x) (place_that p xs) refl e (λ j k. place_that-append p xs ys j k)
    where
      go : (i : ℕ) (b : Bool) (o : Option ℕ) → place_that p xs ≡ o → place_at b o ≡ some i → ((j : ℕ) → place_that p xs ≡ some j → place_that p (xs ++ ys) ≡ some j)
          → place_at b (place_that p (xs ++ ys)) ≡ some i
      go i true o k z ih = z
      go i false none k z ih = let q : ◌≡◌ {A = ℕ} 0 1 = cc in absurd (omega arith)
      go i false (some j) k z ih = ap (place_at false) (ih j k) ∙ z

  pub place_that-snoc : (p : A → Bool) (xs : List A) (y : A) → place_that p xs ≡ none → p y ≡ true → place_that p (xs ++ (y ∷ [])) ≡ some (length xs)
  place_that-snoc p [] y e h = ap (λ (b : Bool). place_at b none) h
  place_that-snoc p (x ∷ xs) y e h = go (p x) (place_that p xs) refl e (λ k. place_that-snoc p xs y k h)
    where
      go : (b : Bool) (o : Option ℕ) → place_that p xs ≡ o → place_at b o ≡ none → (place_that p xs ≡ none → place_that p (xs ++ (y ∷ [])) ≡ some (length xs))
          → place_at b (place_that p (xs ++ (y ∷ []))) ≡ some (suc (length xs))
      go true o k z ih = let q : ◌≡◌ {A = ℕ} 0 1 = cc in absurd (omega arith)
      go false none k z ih = ap (place_at false) (ih k)
      go false (some j) k z ih = let q : ◌≡◌ {A = ℕ} 0 1 = cc in absurd (omega arith)

  pub any→place_that-none : (p : A → Bool) (xs : List A) → any p xs ≡ false → place_that p xs ≡ none
  any→place_that-none p [] h = refl
  any→place_that-none p (x ∷ xs) h =
      ap (λ (b : Bool). place_at b (place_that p xs)) (or-false-left (p x) (any p xs) h)
      ∙ ap (place_at false) (any→place_that-none p xs (or-false-right (p x) (any p xs) h))
