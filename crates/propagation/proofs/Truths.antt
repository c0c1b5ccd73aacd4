-- A literal is among the false ones exactly if its variable's value says so; clauses under more false literals.
use mathlib.Core.Path.{◌≡◌, refl, sym, ap, ◌∙◌}
use mathlib.Core.Bool.{Bool, true, false, cond, ◌||◌, false≢true, or-true}
use mathlib.Core.List.{List, [], ◌∷◌}
use Prim.Native.Nat.{ℕ, zero, suc, ◌+◌, ◌-◌, ◌/◌, ◌%◌, ◌≤◌}
use native.Mathlib.Omega.{arith}
use borrow.Author.Tests.{eqb-true, eqb-false, eq-eqb, leb-true, leb-false}
use lib.Dec.{eqb, leb}
use lib.ListN.{get_or, replicate}
use lib.Seq.{get_or-set_same, get_or-set_other}
use Rattle.theory.proofs.Tests.{not-true}
use Rattle.theory.specs.Lists.{elem}
use Rattle.propagation.specs.WorkArea.{negated, trail, values, Fresh, falses, live}
use Rattle.propagation.proofs.Trails.{negated-half, negated-sign, values_length}

module _ (v : ℕ) (t : ℕ) (ts : List ℕ) (f : Fresh v (t ∷ ts)) where
  pub value-own : get_or (values v (t ∷ ts)) (t / 2 / 2) 0 ≡ 1 + t / 2 % 2
  value-own = get_or-set_same (values v ts) (t / 2 / 2) (1 + t / 2 % 2) 0 (omega (arith, values_length v ts, f.0))

  pub value-other : (k : ℕ) → (k ≡ t / 2 / 2 → ⊥) → get_or (values v (t ∷ ts)) k 0 ≡ get_or (values v ts) k 0
  value-other k n = get_or-set_other (values v ts) (t / 2 / 2) k (1 + t / 2 % 2) 0 n

pub false-value : (v x : ℕ) (ts : List ℕ) → Fresh v ts → elem x (falses ts) ≡ true → get_or (values v ts) (x / 2) 0 ≡ 2 - x % 2
false-value v x [] f h = absurd (false≢true h)
false-value v x (t ∷ ts) f h = by (false-value v x ts f.2) (eqb x (negated (t / 2))) refl
  where
    by : (elem x (falses ts) ≡ true → get_or (values v ts) (x / 2) 0 ≡ 2 - x % 2) → (b : Bool) → eqb x (negated (t / 2)) ≡ b
        → get_or (values v (t ∷ ts)) (x / 2) 0 ≡ 2 - x % 2
    by again true e =
        let same : x / 2 ≡ t / 2 / 2 = ap (λ (n : ℕ). n / 2) (eqb-true x (negated (t / 2)) e) ∙ negated-half (t / 2) in
        let sign : x % 2 ≡ 1 - t / 2 % 2 = ap (λ (n : ℕ). n % 2) (eqb-true x (negated (t / 2)) e) ∙ negated-sign (t / 2) in
        ap (λ (k : ℕ). get_or (values v (t ∷ ts)) k 0) same ∙ value-own v t ts f ∙ omega (arith, sign)
    by again false e =
        let h' : elem x (falses ts) ≡ true = rw e at h in
        let n : x / 2 ≡ t / 2 / 2 → ⊥ = λ s. omega (arith, again h', ap (λ (k : ℕ). get_or (values v ts) k 0) s, f.1) in
        value-other v t ts f (x / 2) n ∙ again h'

pub zero-at : (v k : ℕ) → ◌≡◌ {A = ℕ} (get_or (replicate v 0) k 0) 0
zero-at zero k = refl
zero-at (suc v) zero = refl
zero-at (suc v) (suc k) = zero-at v k

same-literal : (x u : ℕ) → x / 2 ≡ u / 2 → x % 2 ≡ u % 2 → x ≡ u
same-literal x u a b = omega (arith, a, b)

pub value-false : (v x : ℕ) (ts : List ℕ) → Fresh v ts → get_or (values v ts) (x / 2) 0 ≡ 2 - x % 2 → elem x (falses ts) ≡ true
value-false v x [] f h = absurd (omega (arith, h, zero-at v (x / 2)))
value-false v x (t ∷ ts) f h = by (value-false v x ts f.2) (eqb (x / 2) (t / 2 / 2)) refl
  where
    by : (get_or (values v ts) (x / 2) 0 ≡ 2 - x % 2 → elem x (falses ts) ≡ true) → (b : Bool) → eqb (x / 2) (t / 2 / 2) ≡ b
        → (eqb x (negated (t / 2)) || elem x (falses ts)) ≡ true
    by again true e =
        let same = eqb-true (x / 2) (t / 2 / 2) e in
        let own : 2 - x % 2 ≡ 1 + t / 2 % 2 = sym h ∙ ap (λ (k : ℕ). get_or (values v (t ∷ ts)) k 0) same ∙ value-own v t ts f in
        let is : x ≡ negated (t / 2) = same-literal x (negated (t / 2)) (same ∙ sym (negated-half (t / 2))) (omega (arith, own, negated-sign (t / 2))) in
        rw (eq-eqb x (negated (t / 2)) is) refl
    by again false e =
        rw (again (sym (value-other v t ts f (x / 2) (eqb-false (x / 2) (t / 2 / 2) e)) ∙ h)) (or-true (eqb x (negated (t / 2))))

-- a literal of an unset variable is not false
pub unset-live : (v x : ℕ) (ts : List ℕ) → Fresh v ts → get_or (values v ts) (x / 2) 0 ≡ 0 → elem x (falses ts) ≡ false
unset-live v x ts f e = not-true (elem x (falses ts)) (λ h. omega (arith, false-value v x ts f h))

-- a value is 0, 1 or 2
pub value-small : (v : ℕ) (ts : List ℕ) (k : ℕ) → Fresh v ts → get_or (values v ts) k 0 ≤ 2
value-small v [] k f = omega (arith, zero-at v k)
value-small v (t ∷ ts) k f = by (value-small v ts k f.2) (eqb k (t / 2 / 2)) refl
  where
    by : get_or (values v ts) k 0 ≤ 2 → (b : Bool) → eqb k (t / 2 / 2) ≡ b → get_or (values v (t ∷ ts)) k 0 ≤ 2
    by again true e = rw (eqb-true k (t / 2 / 2) e) (omega (arith, value-own v t ts f))
    by again false e = omega (arith, value-other v t ts f k (eqb-false k (t / 2 / 2) e))

-- the entries of a shorter trail are among those of a longer one
pub falses-down : (v : ℕ) (w : List ℕ) (x n len : ℕ) → n ≤ len → elem x (falses (trail w v n)) ≡ true → elem x (falses (trail w v len)) ≡ true
falses-down v w x n zero h e = let z : n ≡ 0 = omega arith in rw z at e
falses-down v w x n (suc m) h e = by (λ l. falses-down v w x n m l e) (leb (suc m) n) refl
  where
    by : (n ≤ m → elem x (falses (trail w v m)) ≡ true) → (b : Bool) → leb (suc m) n ≡ b → elem x (falses (trail w v (suc m))) ≡ true
    by again true q = let same : n ≡ suc m = omega (arith, leb-true (suc m) n q) in rw same at e
    by again false q = rw (again (omega (arith, leb-false (suc m) n q))) (or-true (eqb x (negated (get_or w (v + m) 0 / 2))))

-- under more false literals, what is not false is found among what was not
pub live-live : (D E : List ℕ) → ((x : ℕ) → elem x D ≡ true → elem x E ≡ true) → (c : List ℕ) → live E (live D c) ≡ live E c
live-live D E sub [] = refl
live-live D E sub (x ∷ xs) = by (live-live D E sub xs) (elem x D) refl
  where
    by : live E (live D xs) ≡ live E xs → (b : Bool) → elem x D ≡ b → live E (cond b (live D xs) (x ∷ live D xs)) ≡ live E (x ∷ xs)
    by again true e = rw (sub x e) again
    by again false e = rw again refl
