-- Filling in a clause's letters at their places, A first: those below x stand there, the others are 0.
use Prim.Native.Nat.{ℕ, zero, suc, ◌+◌, ◌≤◌, ◌<◌}
use mathlib.Core.Path.{◌≡◌, refl, sym, ap, ◌∙◌}
use mathlib.Core.Bool.{Bool, true, false, cond, not}
use mathlib.Core.Option.{Option, none, some, some-injective}
use mathlib.Core.List.{List, [], ◌∷◌, ◌++◌, map}
use native.Mathlib.Numerals.{add-one}
use native.Mathlib.Omega.{arith}
use lib.Dec.{eqb, ltb}
use lib.ListN.{length, get_or, set, drop, replicate, length-map}
use Rattle.theory.specs.Lists.{any, all, elem, distinct, place_at, place_that}
use Rattle.theory.proofs.Tests.{eqb-true, eqb-ne, ltb-true, ltb-of-<, ltb-of-≤, ltb-false, false_of_not, and_left, and_right, or-false-left, or-false-right}
use Rattle.theory.proofs.Lists.{all-distinct, map-all}
use Rattle.theory.proofs.Distinct.{elem-any, once, distinct-once, length-distinct}
use Rattle.theory.proofs.Finding.{place_that-some, place_that-none}
use Rattle.syntax.specs.declared.variables.Variables.{Variables}
use Rattle.syntax.specs.Variables.{is_letter, place_or8, Places}
use Rattle.answers.specs.Answers.{eight}

-- the byte of a letter below x, else 0
abbrev shown_below : ℕ → ℕ → ℕ
shown_below x y = cond (ltb y x) (65 + y) 0

-- another letter than x is shown below x + 1 as it is below x
other-shown : (x y : ℕ) → eqb x y ≡ false → shown_below x y ≡ shown_below (suc x) y
other-shown x y e = go (ltb y x) refl
  where
    go : (b : Bool) → ltb y x ≡ b → cond b (65 + y) 0 ≡ shown_below (suc x) y
    go true k = let l : y < x = ltb-true y x k in sym (ap (λ (b : Bool). cond b (65 + y) 0) (ltb-of-< y (suc x) (omega arith)))
    go false k =
        let l : x ≤ y = ltb-false y x k in
        let n = eqb-ne x y e in
        sym (ap (λ (b : Bool). cond b (65 + y) 0) (ltb-of-≤ y (suc x) (omega arith)))

own-shown : (x y : ℕ) → eqb x y ≡ true → 65 + x ≡ shown_below (suc x) y
own-shown x y e = let z : x ≡ y = eqb-true x y e in ap (λ (n : ℕ). 65 + n) z ∙ sym (ap (λ (b : Bool). cond b (65 + y) 0) (ltb-of-< y (suc x) (omega arith)))

others-shown : (x : ℕ) (ys : List ℕ) → any (eqb x) ys ≡ false → map (shown_below x) ys ≡ map (shown_below (suc x)) ys
others-shown x [] h = refl
others-shown x (y ∷ ys) h =
    let p : shown_below x y ≡ shown_below (suc x) y = other-shown x y (or-false-left (eqb x y) (any (eqb x) ys) h) in
    let q : map (shown_below x) ys ≡ map (shown_below (suc x)) ys = others-shown x ys (or-false-right (eqb x y) (any (eqb x) ys) h) in
    cc

-- letter x comes to its place
placed-shown : (x : ℕ) (ys zs : List ℕ) (i : ℕ) → once ys ≡ true → place_that (eqb x) ys ≡ some i → set (map (shown_below x) ys ++ zs) i (65 + x) ≡ map (shown_below (suc x)) ys ++ zs
placed-shown x [] zs i o e = let z : ◌≡◌ {A = ℕ} 0 1 = cc in absurd (omega arith)
placed-shown x (y ∷ ys) zs i o e = go i (eqb x y) refl (place_that (eqb x) ys) refl e (λ j k. placed-shown x ys zs j (and_right (not (elem y ys)) (once ys) o) k)
  where
    go : (i : ℕ) (b : Bool) → eqb x y ≡ b → (r : Option ℕ) → place_that (eqb x) ys ≡ r → place_at b r ≡ some i
        → ((j : ℕ) → place_that (eqb x) ys ≡ some j → set (map (shown_below x) ys ++ zs) j (65 + x) ≡ map (shown_below (suc x)) ys ++ zs)
        → set (map (shown_below x) (y ∷ ys) ++ zs) i (65 + x) ≡ map (shown_below (suc x)) (y ∷ ys) ++ zs
    go zero true k r t z ih =
        let n : elem y ys ≡ false = false_of_not (elem y ys) (and_left (not (elem y ys)) (once ys) o) in
        let m : any (eqb x) ys ≡ false = ap (λ (w : ℕ). any (eqb w) ys) (eqb-true x y k) ∙ sym (elem-any y ys) ∙ n in
        ap (λ (n : ℕ). n ∷ (map (shown_below x) ys ++ zs)) (own-shown x y k) ∙ ap (λ (l : List ℕ). shown_below (suc x) y ∷ (l ++ zs)) (others-shown x ys m)
    go (suc i) true k r t z ih = let q : ◌≡◌ {A = ℕ} 0 (suc i) = some-injective 0 (suc i) z in absurd (omega arith)
    go i false k none t z ih = let q : ◌≡◌ {A = ℕ} 0 1 = cc in absurd (omega arith)
    go zero false k (some j) t z ih = let q : ◌≡◌ {A = ℕ} (suc j) 0 = some-injective (suc j) 0 z in absurd (omega arith)
    go (suc i) false k (some j) t z ih =
        let q : ◌≡◌ {A = ℕ} (suc j) (suc i) = some-injective (suc j) (suc i) z in
        let e : j ≡ i = omega arith in
        ap (λ (n : ℕ). n ∷ set (map (shown_below x) ys ++ zs) i (65 + x)) (other-shown x y k) ∙ ap (λ (l : List ℕ). shown_below (suc x) y ∷ l) (ih i (t ∙ ap {B = Option ℕ} some e))

zeros-over : (m : ℕ) (ys : List ℕ) → length ys ≤ m → map (shown_below 0) ys ++ drop (length ys) (replicate m 0) ≡ replicate m 0
zeros-over m [] h = refl
zeros-over zero (y ∷ ys) h = absurd (omega arith)
zeros-over (suc m) (y ∷ ys) h =
    ap (λ (b : Bool). cond b (65 + y) 0 ∷ (map (shown_below 0) ys ++ drop (length ys) (replicate m 0))) (ltb-of-≤ y 0 (omega arith)) ∙ ap (λ (l : List ℕ). 0 ∷ l) (zeros-over m ys (omega arith))

-- the letters below x stand at their places, whatever the letters are
abbrev pub Filled : Variables → ℕ → List ℕ → Type 0
Filled v x letters = (xs : List ℕ) → all is_letter xs ≡ true → Places (distinct xs) v → letters ≡ map (shown_below x) (distinct xs) ++ drop (length (distinct xs)) (replicate 8 0)

pub none_filled : (v : Variables) → Filled v 0 (replicate 8 0)
none_filled v xs h p = sym (zeros-over 8 (distinct xs) (length-distinct 8 xs h))

pub all-filled : (v : Variables) (letters : List ℕ) → Filled v 8 letters → (xs : List ℕ) → all is_letter xs ≡ true → Places (distinct xs) v → letters ≡ eight (map (λ x. 65 + x) (distinct xs))
all-filled v letters f xs h p =
    f xs h p
    ∙ ap (λ (l : List ℕ). l ++ drop (length (distinct xs)) (replicate 8 0)) (map-all is_letter (shown_below 8) (λ x. 65 + x) (distinct xs) (all-distinct is_letter xs h) (λ y k. ap (λ (b : Bool). cond b (65 + y) 0) k))
    ∙ ap (λ (n : ℕ). map (λ x. 65 + x) (distinct xs) ++ drop n (replicate 8 0)) (sym (length-map (distinct xs) (λ x. 65 + x)))

module _ (v : Variables) (x : ℕ) (l : x < 8) (letters : List ℕ) (f : Filled v x letters) where
  -- a letter that has a place is put there, any other changes nothing
  pub letter-filled : (i : ℕ) → get_or v.place x 0 ≡ i → i < 8 → Filled v (x + 1) (set letters i (65 + x))
  letter-filled i e m xs h p = rw add-one (go (place_that (eqb x) (distinct xs)) refl)
    where
      go : (o : Option ℕ) → place_that (eqb x) (distinct xs) ≡ o → set letters i (65 + x) ≡ map (shown_below (suc x)) (distinct xs) ++ drop (length (distinct xs)) (replicate 8 0)
      go none k = absurd (omega (arith, p.places x l, ap place_or8 k))
      go (some j) k =
          let z : j ≡ i = sym (ap place_or8 k) ∙ sym (p.places x l) ∙ e in
          ap (λ (l : List ℕ). set l i (65 + x)) (f xs h p) ∙ placed-shown x (distinct xs) (drop (length (distinct xs)) (replicate 8 0)) i (distinct-once xs) (k ∙ ap {B = Option ℕ} some z)

  pub letter-absent : 8 ≤ get_or v.place x 0 → Filled v (x + 1) letters
  letter-absent m xs h p = rw add-one (go (place_that (eqb x) (distinct xs)) refl)
    where
      go : (o : Option ℕ) → place_that (eqb x) (distinct xs) ≡ o → letters ≡ map (shown_below (suc x)) (distinct xs) ++ drop (length (distinct xs)) (replicate 8 0)
      go none k = f xs h p ∙ ap (λ (l : List ℕ). l ++ drop (length (distinct xs)) (replicate 8 0)) (others-shown x (distinct xs) (place_that-none (eqb x) (distinct xs) k))
      go (some j) k = absurd (omega (arith, p.places x l, ap place_or8 k, (place_that-some (eqb x) (distinct xs) j 0 k).0, length-distinct 8 xs h))
