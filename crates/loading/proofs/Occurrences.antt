-- Counting the occurrences of literals: of one more clause, of a literal that a clause has, and of all literals together.
use mathlib.Core.Path.{◌≡◌, refl, sym, ◌∙◌}
use mathlib.Core.Bool.{Bool, true, false, cond, ◌||◌, false≢true}
use mathlib.Core.List.{List, [], ◌∷◌, ◌++◌, map}
use Prim.Native.Nat.{ℕ, zero, suc, ◌+◌, ◌≤◌, ◌<◌}
use native.Mathlib.Nat.{not-suc-le-zero, le_of_suc-le-suc}
use native.Mathlib.Omega.{arith}
use lib.Dec.{eqb}
use lib.ListN.{length, get_or, take}
use Rattle.theory.specs.Lists.{elem}
use Rattle.theory.proofs.Tests.{eqb-true, eqb-ne}
use Rattle.theory.proofs.Lists.{sum-map-append}
use Rattle.propagation.specs.Clauses.{holders, once}
use Rattle.propagation.proofs.Once.{elem-once}
use Rattle.loading.specs.Filling.{occurs, occurrences, literals, sum_below}

pub bit-≤ : (b : Bool) → cond b 1 0 ≤ 1
bit-≤ true = omega arith
bit-≤ false = omega arith

pub occurs-≤ : (x : ℕ) (c : List ℕ) → occurs x c ≤ length c
occurs-≤ x [] = omega arith
occurs-≤ x (y ∷ ys) = omega (arith, occurs-≤ x ys, bit-≤ (eqb x y))

pub occurrences-≤ : (x : ℕ) (cs : List (List ℕ)) → occurrences x cs ≤ literals cs
occurrences-≤ x [] = omega arith
occurrences-≤ x (c ∷ cs) = omega (arith, occurs-≤ x c, occurrences-≤ x cs)

-- one clause more
pub occurrences-snoc : (x : ℕ) (cs : List (List ℕ)) (c : List ℕ) → occurrences x (cs ++ (c ∷ [])) ≡ occurrences x cs + occurs x c
occurrences-snoc x cs c = sum-map-append (occurs x) cs (c ∷ []) ∙ omega arith

-- one literal more
pub occurs-take : (x : ℕ) (c : List ℕ) (i : ℕ) → i < length c → occurs x (take (suc i) c) ≡ occurs x (take i c) + cond (eqb x (get_or c i 0)) 1 0
occurs-take x [] i h = absurd (not-suc-le-zero h)
occurs-take x (y ∷ ys) zero h = omega arith
occurs-take x (y ∷ ys) (suc i) h = omega (arith, occurs-take x ys i (le_of_suc-le-suc h))

pub elem-occurs : (x : ℕ) (c : List ℕ) → elem x c ≡ true → 1 ≤ occurs x c
elem-occurs x [] h = absurd (false≢true h)
elem-occurs x (y ∷ ys) h = by (eqb x y) h (elem-occurs x ys)
  where
    by : (b : Bool) → (b || elem x ys) ≡ true → (elem x ys ≡ true → 1 ≤ occurs x ys) → 1 ≤ cond b 1 0 + occurs x ys
    by true k again = omega arith
    by false k again = omega (arith, again k)

-- a clause is entered at most once for each occurrence of a literal
pub holders-≤ : (a x : ℕ) (es : List (List ℕ)) → length (holders a x (map once es)) ≤ occurrences x es
holders-≤ a x [] = omega arith
holders-≤ a x (e ∷ es) = by (elem x (once e)) refl (holders-≤ (suc a) x es)
  where
    by : (b : Bool) → elem x (once e) ≡ b → length (holders (suc a) x (map once es)) ≤ occurrences x es
        → length (cond b (a ∷ holders (suc a) x (map once es)) (holders (suc a) x (map once es))) ≤ occurs x e + occurrences x es
    by true h again = omega (arith, elem-occurs x e (sym (elem-once x e) ∙ h))
    by false h again = omega arith

pub sum_below-cong : (f g : ℕ → ℕ) (n : ℕ) → ((x : ℕ) → x < n → f x ≡ g x) → sum_below f n ≡ sum_below g n
sum_below-cong f g zero h = refl
sum_below-cong f g (suc n) h = omega (arith, sum_below-cong f g n (λ x k. h x (omega arith)), h n (omega arith))

sum_below-add : (f g : ℕ → ℕ) (n : ℕ) → sum_below (λ x. f x + g x) n ≡ sum_below f n + sum_below g n
sum_below-add f g zero = refl
sum_below-add f g (suc n) = omega (arith, sum_below-add f g n)

sum_below-zero : (n : ℕ) → sum_below (λ x. 0) n ≡ 0
sum_below-zero zero = refl
sum_below-zero (suc n) = omega (arith, sum_below-zero n)

pub sum_below-up : (f : ℕ → ℕ) (x y : ℕ) → x ≤ y → sum_below f x ≤ sum_below f y
sum_below-up f x zero h = let e : x ≡ 0 = omega arith in rw e (omega arith)
sum_below-up f x (suc y) h = by (eqb x (suc y)) refl (λ k. sum_below-up f x y k)
  where
    by : (b : Bool) → eqb x (suc y) ≡ b → (x ≤ y → sum_below f x ≤ sum_below f y) → sum_below f x ≤ sum_below f (suc y)
    by true e again = rw (eqb-true x (suc y) e) (omega arith)
    by false e again = omega (arith, again (omega (arith, eqb-ne x (suc y) e)))

-- one number is counted at one place at most
one_place : (y n : ℕ) → (n ≤ y → sum_below (λ x. cond (eqb x y) 1 0) n ≡ 0) × (sum_below (λ x. cond (eqb x y) 1 0) n ≤ 1)
one_place y zero = (λ h. refl, omega arith)
one_place y (suc n) = by (eqb n y) refl (one_place y n)
  where
    f : ℕ → ℕ
    f x = cond (eqb x y) 1 0

    by : (b : Bool) → eqb n y ≡ b → (n ≤ y → sum_below f n ≡ 0) × (sum_below f n ≤ 1)
        → (suc n ≤ y → sum_below f n + cond b 1 0 ≡ 0) × (sum_below f n + cond b 1 0 ≤ 1)
    by true e again = let s = eqb-true n y e in (λ h. absurd (omega arith), omega (arith, again.0 (omega arith)))
    by false e again = (λ h. omega (arith, again.0 (omega arith)), omega (arith, again.1))

clause-sum : (n : ℕ) (c : List ℕ) → sum_below (λ x. occurs x c) n ≤ length c
clause-sum n [] = omega (arith, sum_below-zero n)
clause-sum n (y ∷ ys) =
    omega (arith, sum_below-add (λ x. cond (eqb x y) 1 0) (λ x. occurs x ys) n, (one_place y n).1, clause-sum n ys)

-- the literals have no more occurrences than the clauses have literals
pub literals-sum : (n : ℕ) (cs : List (List ℕ)) → sum_below (λ x. occurrences x cs) n ≤ literals cs
literals-sum n [] = omega (arith, sum_below-zero n)
literals-sum n (c ∷ cs) = omega (arith, sum_below-add (λ x. occurs x c) (λ x. occurrences x cs) n, clause-sum n c, literals-sum n cs)
