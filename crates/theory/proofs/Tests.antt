-- Laws of Boolean tests and of the tests on numbers. A test passes: `b ≡ true`.
use Prim.Native.Nat.{ℕ, ◌≤◌, ◌<◌}
use mathlib.Core.Path.{◌≡◌, refl, sym, ap, ◌∙◌}
use mathlib.Core.Logic.{◌⊎◌, inl, inr, ◌≢◌}
use mathlib.Core.Bool.{Bool, true, false, cond, not, ◌&&◌, ◌||◌, beq, true≢false, false≢true}
use native.Mathlib.Omega.{arith}
use lib.Dec.{T, eqb, ltb, leb, eqb→eq, eqb_refl, ltb→lt, lt→ltb, nltb→le, leb→le, le→leb, nleb→lt}

pub true→T : (b : Bool) → b ≡ true → T b
true→T true e = tt
true→T false e = absurd (false≢true e)

pub T→true : (b : Bool) → T b → b ≡ true
T→true true t = refl
T→true false t = absurd t

pub not-true : (b : Bool) → (b ≡ true → ⊥) → b ≡ false
not-true true h = absurd (h refl)
not-true false h = refl

pub true-or-false : (b : Bool) → (b ≡ true) ⊎ (b ≡ false)
true-or-false true = inl refl
true-or-false false = inr refl

pub both_false : {b : Bool} → b ≡ true → b ≡ false → ⊥
both_false e h = true≢false (sym e ∙ h)

pub iff→≡ : (a b : Bool) → (a ≡ true → b ≡ true) → (b ≡ true → a ≡ true) → a ≡ b
iff→≡ true b f g = sym (f refl)
iff→≡ false true f g = g refl
iff→≡ false false f g = refl

pub eqb-true : (m n : ℕ) → eqb m n ≡ true → m ≡ n
eqb-true m n e = eqb→eq m n (true→T (eqb m n) e)

pub eqb_same : (n : ℕ) → eqb n n ≡ true
eqb_same n = T→true (eqb n n) (eqb_refl n)

pub eqb-of-≡ : (m n : ℕ) → m ≡ n → eqb m n ≡ true
eqb-of-≡ m n e = rw e (eqb_same n)

pub eqb-false : (m n : ℕ) → m ≢ n → eqb m n ≡ false
eqb-false m n h = not-true (eqb m n) (λ e. h (eqb-true m n e))

pub eqb-ne : (m n : ℕ) → eqb m n ≡ false → m ≢ n
eqb-ne m n h e = both_false (eqb-of-≡ m n e) h

pub eqb-sym : (m n : ℕ) → eqb m n ≡ eqb n m
eqb-sym m n = iff→≡ (eqb m n) (eqb n m) (λ e. eqb-of-≡ n m (sym (eqb-true m n e))) (λ e. eqb-of-≡ m n (sym (eqb-true n m e)))

pub ltb-true : (m n : ℕ) → ltb m n ≡ true → m < n
ltb-true m n e = ltb→lt m n (true→T (ltb m n) e)

pub ltb-of-< : (m n : ℕ) → m < n → ltb m n ≡ true
ltb-of-< m n h = T→true (ltb m n) (lt→ltb m n h)

pub ltb-false : (m n : ℕ) → ltb m n ≡ false → n ≤ m
ltb-false m n e = nltb→le m n (true→T (not (ltb m n)) (ap not e))

pub and_left : (a b : Bool) → (a && b) ≡ true → a ≡ true
and_left true b e = refl
and_left false b e = e

pub and_right : (a b : Bool) → (a && b) ≡ true → b ≡ true
and_right true b e = e
and_right false b e = absurd (false≢true e)

pub and-false : (a : Bool) → (a && false) ≡ false
and-false true = refl
and-false false = refl

pub and-join : (a b : Bool) → a ≡ true → b ≡ true → (a && b) ≡ true
and-join true b e h = h
and-join false b e h = e

pub or_cases : (a b : Bool) → (a || b) ≡ true → (a ≡ true) ⊎ (b ≡ true)
or_cases true b e = inl refl
or_cases false b e = inr e

pub or_left : (a b : Bool) → a ≡ true → (a || b) ≡ true
or_left true b e = refl
or_left false b e = absurd (false≢true e)

pub or_right : (a b : Bool) → b ≡ true → (a || b) ≡ true
or_right true b e = refl
or_right false b e = e

pub or-false-left : (a b : Bool) → (a || b) ≡ false → a ≡ false
or-false-left true b e = absurd (true≢false e)
or-false-left false b e = refl

pub or-false-right : (a b : Bool) → (a || b) ≡ false → b ≡ false
or-false-right true b e = absurd (true≢false e)
or-false-right false b e = e

pub or-false-join : (a b : Bool) → a ≡ false → b ≡ false → (a || b) ≡ false
or-false-join true b e h = e
or-false-join false b e h = h

-- a negative literal
pub beq-false : (b : Bool) → b ≡ true → beq false b ≡ false
beq-false true e = refl
beq-false false e = absurd (false≢true e)

pub of-beq-false : (b : Bool) → beq false b ≡ false → b ≡ true
of-beq-false true e = refl
of-beq-false false e = absurd (true≢false e)

pub lt-or-eq-or-gt : (a b : ℕ) → (a < b) ⊎ ((a ≡ b) ⊎ (b < a))
lt-or-eq-or-gt a b = go (true-or-false (ltb a b)) (true-or-false (eqb a b))
  where
    go : (ltb a b ≡ true) ⊎ (ltb a b ≡ false) → (eqb a b ≡ true) ⊎ (eqb a b ≡ false) → (a < b) ⊎ ((a ≡ b) ⊎ (b < a))
    go (inl h) k = inl (ltb-true a b h)
    go (inr h) (inl k) = inr (inl (eqb-true a b k))
    go (inr h) (inr k) = let ge : b ≤ a = ltb-false a b h in let ne : a ≢ b = eqb-ne a b k in inr (inr (omega arith))

pub leb-true : (m n : ℕ) → leb m n ≡ true → m ≤ n
leb-true m n e = leb→le m n (true→T (leb m n) e)

pub leb-of-≤ : (m n : ℕ) → m ≤ n → leb m n ≡ true
leb-of-≤ m n h = T→true (leb m n) (le→leb m n h)

pub leb-false : (m n : ℕ) → leb m n ≡ false → n < m
leb-false m n e = nleb→lt m n (true→T (not (leb m n)) (ap not e))

pub ltb-of-≤ : (m n : ℕ) → n ≤ m → ltb m n ≡ false
ltb-of-≤ m n h = not-true (ltb m n) (λ e. let lt : m < n = ltb-true m n e in omega arith)

pub leb-of-< : (m n : ℕ) → n < m → leb m n ≡ false
leb-of-< m n h = not-true (leb m n) (λ e. let le : m ≤ n = leb-true m n e in omega arith)

pub beq-true : (b : Bool) → beq true b ≡ b
beq-true true = refl
beq-true false = refl

pub beq-not : (b : Bool) → beq false b ≡ not b
beq-not true = refl
beq-not false = refl

pub beq_same : (b : Bool) → beq b b ≡ true
beq_same true = refl
beq_same false = refl

pub beq-≡ : (a b : Bool) → beq a b ≡ true → a ≡ b
beq-≡ true true e = refl
beq-≡ true false e = absurd (false≢true e)
beq-≡ false true e = absurd (false≢true e)
beq-≡ false false e = refl

pub false_of_not : (b : Bool) → not b ≡ true → b ≡ false
false_of_not true e = absurd (false≢true e)
false_of_not false e = refl

pub true_of_not : (b : Bool) → not b ≡ false → b ≡ true
true_of_not true e = refl
true_of_not false e = sym e

-- a truth written as 1 or 0
pub byte-is : (b : Bool) → eqb (cond b 1 0) 1 ≡ b
byte-is true = refl
byte-is false = refl
