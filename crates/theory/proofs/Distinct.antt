-- Laws of `distinct`: one number more, at most n numbers below n, and no more than there were.
use Prim.Native.Nat.{ℕ, zero, suc, ◌≤◌, ◌<◌}
use mathlib.Core.Path.{◌≡◌, refl, ap, ◌∙◌}
use mathlib.Core.Logic.{⊎_elim}
use mathlib.Core.Bool.{Bool, true, false, cond, not, ◌&&◌, ◌||◌, false≢true}
use mathlib.Core.List.{List, [], ◌∷◌, ◌++◌, append-nil}
use native.Mathlib.Omega.{arith}
use lib.Dec.{eqb, ltb}
use lib.ListN.{length}
use Rattle.theory.specs.Lists.{any, all, elem, remove, distinct}
use Rattle.theory.proofs.Tests.{both_false, eqb-true, eqb_same, eqb-ne, eqb-sym, ltb-true, ltb-of-<, false_of_not, and_left, and_right, and-join, or-false-left, or-false-right, or-false-join, or_cases}
use Rattle.theory.proofs.Lists.{all-distinct}

-- being an element is a test that some element passes
pub elem-any : (x : ℕ) (xs : List ℕ) → elem x xs ≡ any (eqb x) xs
elem-any x [] = refl
elem-any x (y ∷ xs) = ap (λ (b : Bool). eqb x y || b) (elem-any x xs)

remove-append : (x : ℕ) (xs ys : List ℕ) → remove x (xs ++ ys) ≡ remove x xs ++ remove x ys
remove-append x [] ys = refl
remove-append x (z ∷ xs) ys = go (eqb x z) (remove-append x xs ys)
  where
    go : (b : Bool) → remove x (xs ++ ys) ≡ remove x xs ++ remove x ys → cond b (remove x (xs ++ ys)) (z ∷ remove x (xs ++ ys)) ≡ cond b (remove x xs) (z ∷ remove x xs) ++ remove x ys
    go true ih = ih
    go false ih = ap (λ (l : List ℕ). z ∷ l) ih

-- one number more is a new one, or it stands there already
pub distinct-new : (xs : List ℕ) (x : ℕ) → elem x xs ≡ false → distinct (xs ++ (x ∷ [])) ≡ distinct xs ++ (x ∷ [])
distinct-new [] x h = refl
distinct-new (y ∷ xs) x h =
    let n : eqb y x ≡ false = eqb-sym y x ∙ or-false-left (eqb x y) (elem x xs) h in
    ap (λ (l : List ℕ). y ∷ remove y l) (distinct-new xs x (or-false-right (eqb x y) (elem x xs) h))
    ∙ ap (λ (l : List ℕ). y ∷ l) (remove-append y (distinct xs) (x ∷ []) ∙ ap (λ (b : Bool). remove y (distinct xs) ++ cond b [] (x ∷ [])) n)

pub distinct-old : (xs : List ℕ) (x : ℕ) → elem x xs ≡ true → distinct (xs ++ (x ∷ [])) ≡ distinct xs
distinct-old [] x h = absurd (false≢true h)
distinct-old (y ∷ xs) x h = go (elem x xs) refl (λ k. distinct-old xs x k)
  where
    go : (b : Bool) → elem x xs ≡ b → (elem x xs ≡ true → distinct (xs ++ (x ∷ [])) ≡ distinct xs) → y ∷ remove y (distinct (xs ++ (x ∷ []))) ≡ y ∷ remove y (distinct xs)
    go true e ih = ap (λ (l : List ℕ). y ∷ remove y l) (ih e)
    go false e ih =
        let z : x ≡ y = ⊎_elim (λ k. eqb-true x y k) (λ k. absurd (both_false k e)) (or_cases (eqb x y) (elem x xs) h) in
        ap (λ (l : List ℕ). y ∷ remove y l) (distinct-new xs x e)
        ∙ ap (λ (l : List ℕ). y ∷ l) (remove-append y (distinct xs) (x ∷ []) ∙ ap (λ (b : Bool). remove y (distinct xs) ++ cond b [] (x ∷ [])) (ap (eqb y) z ∙ eqb_same y) ∙ append-nil (remove y (distinct xs)))

-- no number stands twice
abbrev pub once : List ℕ → Bool
once [] = true
once (x ∷ xs) = not (elem x xs) && once xs

pub remove-removed : (x : ℕ) (xs : List ℕ) → elem x (remove x xs) ≡ false
remove-removed x [] = refl
remove-removed x (y ∷ xs) = go (eqb x y) refl (remove-removed x xs)
  where
    go : (b : Bool) → eqb x y ≡ b → elem x (remove x xs) ≡ false → elem x (cond b (remove x xs) (y ∷ remove x xs)) ≡ false
    go true e ih = ih
    go false e ih = or-false-join (eqb x y) (elem x (remove x xs)) e ih

pub remove-elem : (x y : ℕ) (xs : List ℕ) → elem x xs ≡ false → elem x (remove y xs) ≡ false
remove-elem x y [] h = refl
remove-elem x y (z ∷ xs) h = go (eqb y z) (remove-elem x y xs (or-false-right (eqb x z) (elem x xs) h))
  where
    go : (b : Bool) → elem x (remove y xs) ≡ false → elem x (cond b (remove y xs) (z ∷ remove y xs)) ≡ false
    go true ih = ih
    go false ih = or-false-join (eqb x z) (elem x (remove y xs)) (or-false-left (eqb x z) (elem x xs) h) ih

-- each number stands in the list before
pub distinct-elem : (x : ℕ) (xs : List ℕ) → elem x xs ≡ false → elem x (distinct xs) ≡ false
distinct-elem x [] h = refl
distinct-elem x (y ∷ xs) h =
    or-false-join (eqb x y) (elem x (remove y (distinct xs))) (or-false-left (eqb x y) (elem x xs) h)
    (remove-elem x y (distinct xs) (distinct-elem x xs (or-false-right (eqb x y) (elem x xs) h)))

remove-once : (x : ℕ) (xs : List ℕ) → once xs ≡ true → once (remove x xs) ≡ true
remove-once x [] h = refl
remove-once x (y ∷ xs) h = go (eqb x y) (remove-once x xs (and_right (not (elem y xs)) (once xs) h))
  where
    go : (b : Bool) → once (remove x xs) ≡ true → once (cond b (remove x xs) (y ∷ remove x xs)) ≡ true
    go true ih = ih
    go false ih =
        and-join (not (elem y (remove x xs))) (once (remove x xs)) (ap not (remove-elem y x xs (false_of_not (elem y xs) (and_left (not (elem y xs)) (once xs) h)))) ih

pub distinct-once : (xs : List ℕ) → once (distinct xs) ≡ true
distinct-once [] = refl
distinct-once (x ∷ xs) =
    and-join (not (elem x (remove x (distinct xs)))) (once (remove x (distinct xs))) (ap not (remove-removed x (distinct xs))) (remove-once x (distinct xs) (distinct-once xs))

pub remove-none : (x : ℕ) (xs : List ℕ) → elem x xs ≡ false → remove x xs ≡ xs
remove-none x [] h = refl
remove-none x (y ∷ xs) h =
    ap (λ (b : Bool). cond b (remove x xs) (y ∷ remove x xs)) (or-false-left (eqb x y) (elem x xs) h) ∙ ap (λ (l : List ℕ). y ∷ l) (remove-none x xs (or-false-right (eqb x y) (elem x xs) h))

remove-length : (x : ℕ) (xs : List ℕ) → once xs ≡ true → length xs ≤ suc (length (remove x xs))
remove-length x [] h = omega arith
remove-length x (y ∷ xs) h = go (eqb x y) refl (remove-length x xs (and_right (not (elem y xs)) (once xs) h))
  where
    go : (b : Bool) → eqb x y ≡ b → length xs ≤ suc (length (remove x xs)) → suc (length xs) ≤ suc (length (cond b (remove x xs) (y ∷ remove x xs)))
    go true e ih =
        let z : x ≡ y = eqb-true x y e in
        let r : remove x xs ≡ xs = remove-none x xs (ap (λ (v : ℕ). elem v xs) z ∙ false_of_not (elem y xs) (and_left (not (elem y xs)) (once xs) h)) in
        omega (arith, ap length r)
    go false e ih = omega arith

remove-below : (n : ℕ) (xs : List ℕ) → all (λ x. ltb x (suc n)) xs ≡ true → all (λ x. ltb x n) (remove n xs) ≡ true
remove-below n [] h = refl
remove-below n (x ∷ xs) h = go (eqb n x) refl (remove-below n xs (and_right (ltb x (suc n)) (all (λ x. ltb x (suc n)) xs) h))
  where
    go : (b : Bool) → eqb n x ≡ b → all (λ x. ltb x n) (remove n xs) ≡ true → all (λ x. ltb x n) (cond b (remove n xs) (x ∷ remove n xs)) ≡ true
    go true e ih = ih
    go false e ih =
        let l : x < suc n = ltb-true x (suc n) (and_left (ltb x (suc n)) (all (λ x. ltb x (suc n)) xs) h) in
        let m = eqb-ne n x e in
        and-join (ltb x n) (all (λ x. ltb x n) (remove n xs)) (ltb-of-< x n (omega arith)) ih

once-below : (n : ℕ) (xs : List ℕ) → once xs ≡ true → all (λ x. ltb x n) xs ≡ true → length xs ≤ n
once-below zero [] h k = omega arith
once-below zero (x ∷ xs) h k = let l : x < 0 = ltb-true x 0 (and_left (ltb x 0) (all (λ x. ltb x 0) xs) k) in absurd (omega arith)
once-below (suc n) xs h k = omega (arith, remove-length n xs h, once-below n (remove n xs) (remove-once n xs h) (remove-below n xs k))

-- there are at most n numbers below n
pub length-distinct : (n : ℕ) (xs : List ℕ) → all (λ x. ltb x n) xs ≡ true → length (distinct xs) ≤ n
length-distinct n xs h = once-below n (distinct xs) (distinct-once xs) (all-distinct (λ x. ltb x n) xs h)

remove-shorter : (x : ℕ) (xs : List ℕ) → length (remove x xs) ≤ length xs
remove-shorter x [] = omega arith
remove-shorter x (y ∷ xs) = go (eqb x y) (remove-shorter x xs)
  where
    go : (b : Bool) → length (remove x xs) ≤ length xs → length (cond b (remove x xs) (y ∷ remove x xs)) ≤ suc (length xs)
    go true ih = omega arith
    go false ih = omega arith

-- there are no more of them than before
pub distinct-shorter : (xs : List ℕ) → length (distinct xs) ≤ length xs
distinct-shorter [] = omega arith
distinct-shorter (x ∷ xs) = omega (arith, remove-shorter x (distinct xs), distinct-shorter xs)
