-- Laws of counts of values, of what a push leaves, and of what a visit does.
use mathlib.Core.Path.{◌≡◌, refl, ◌∙◌}
use mathlib.Core.Bool.{Bool, true, false, cond, not}
use mathlib.Core.List.{List, [], ◌∷◌}
use Prim.Native.Nat.{ℕ, zero, suc, ◌+◌, ◌*◌, ◌/◌, ◌%◌, ◌≤◌, ◌<◌}
use native.Mathlib.Nat.{le_of_suc-le-suc, not-suc-le-zero}
use native.Mathlib.Omega.{arith}
use borrow.Author.Tests.{eq-eqb, ne_eqb}
use lib.Dec.{eqb}
use lib.ListN.{length, get_or, set, take}
use lib.Seq.{get_or-take, length-take-le, take-set-lt, take-set-le}
use Rattle.propagation.specs.Units.{set_count, pushed, visited, forced, stays}

one_at_most : (b : Bool) → cond b 0 1 ≤ 1
one_at_most true = omega arith
one_at_most false = omega arith

pub count-le : (l : List ℕ) → set_count l ≤ length l
count-le [] = omega arith
count-le (x ∷ xs) = omega (arith, count-le xs, one_at_most (eqb x 0))

-- where a value is unset, not all are set
pub count-lt : (l : List ℕ) (x : ℕ) → x < length l → get_or l x 0 ≡ 0 → set_count l < length l
count-lt [] x h e = absurd (not-suc-le-zero h)
count-lt (y ∷ ys) zero h e = rw (eq-eqb y 0 e) (omega (arith, count-le ys))
count-lt (y ∷ ys) (suc x) h e = omega (arith, count-lt ys x (le_of_suc-le-suc h) e, one_at_most (eqb y 0))

-- a value that was unset and is set counts one more
pub count_set : (l : List ℕ) (x z : ℕ) → x < length l → get_or l x 0 ≡ 0 → 0 < z → set_count (set l x z) ≡ set_count l + 1
count_set [] x z h e p = absurd (not-suc-le-zero h)
count_set (y ∷ ys) zero z h e p = rw (eq-eqb y 0 e, ne_eqb z 0 (λ q. omega (arith, q))) (omega arith)
count_set (y ∷ ys) (suc x) z h e p = omega (arith, count_set ys x z (le_of_suc-le-suc h) e p)

-- of the values, the first v numbers of a work area
pub room : (v x : ℕ) (w : List ℕ) → v ≤ length w → x < v → get_or w x 0 ≡ 0 → set_count (take v w) < v
room v x w l h e =
    let n = length-take-le v w l in
    omega (arith, n, count-lt (take v w) x (omega (arith, n)) (get_or-take v w x 0 h ∙ e))

pub pushed-count : (v n u mark : ℕ) (w : List ℕ) → 2 * v ≤ length w → u / 2 < v → get_or w (u / 2) 0 ≡ 0
    → set_count (take v (pushed v n u mark w)) ≡ set_count (take v w) + 1
pushed-count v n u mark w l h e =
    let m = length-take-le v w (omega arith) in
    rw (take-set-le v (set w (u / 2) (1 + u % 2)) (v + n) (2 * u + mark) (omega arith), take-set-lt v w (u / 2) (1 + u % 2) h)
    (count_set (take v w) (u / 2) (1 + u % 2) (omega (arith, m)) (get_or-take v w (u / 2) 0 h ∙ e) (omega arith))

-- what a visit does, by the clause's weight t and the value of the variable that it names
module _ (v q n : ℕ) (w : List ℕ) where
  pub visit-none : get_or w q 0 % 64 ≡ 0 → visited v q n w ≡ stays n true w
  visit-none e = rw (eq-eqb (get_or w q 0 % 64) 0 e) refl

  pub visit-many : (get_or w q 0 % 64 ≡ 0 → ⊥) → (get_or w q 0 % 64 ≡ 1 → ⊥) → visited v q n w ≡ stays n false w
  visit-many a b = rw (ne_eqb (get_or w q 0 % 64) 0 a, ne_eqb (get_or w q 0 % 64) 1 b) refl

  visit-one : get_or w q 0 % 64 ≡ 1 → visited v q n w ≡ forced v n (get_or w q 0 / 64) (get_or w (get_or w q 0 / 64 / 2) 0) w
  visit-one e = rw (ne_eqb (get_or w q 0 % 64) 0 (λ z. omega (arith, z, e)), eq-eqb (get_or w q 0 % 64) 1 e) refl

  pub visit-new : get_or w q 0 % 64 ≡ 1 → get_or w (get_or w q 0 / 64 / 2) 0 ≡ 0 → visited v q n w ≡ record { len = n + 1; clash = false; mem = pushed v n (get_or w q 0 / 64) 0 w }
  visit-new e z = visit-one e ∙ rw (eq-eqb (get_or w (get_or w q 0 / 64 / 2) 0) 0 z) refl

  pub visit-set : get_or w q 0 % 64 ≡ 1 → (get_or w (get_or w q 0 / 64 / 2) 0 ≡ 0 → ⊥)
      → visited v q n w ≡ stays n (not (eqb (get_or w (get_or w q 0 / 64 / 2) 0) (1 + get_or w q 0 / 64 % 2))) w
  visit-set e z = visit-one e ∙ rw (ne_eqb (get_or w (get_or w q 0 / 64 / 2) 0) 0 z) refl

  pub visit-true : get_or w q 0 % 64 ≡ 1 → (get_or w (get_or w q 0 / 64 / 2) 0 ≡ 0 → ⊥) → get_or w (get_or w q 0 / 64 / 2) 0 ≡ 1 + get_or w q 0 / 64 % 2
      → visited v q n w ≡ stays n false w
  visit-true e z s = visit-set e z ∙ rw (eq-eqb (get_or w (get_or w q 0 / 64 / 2) 0) (1 + get_or w q 0 / 64 % 2) s) refl

  pub visit-false : get_or w q 0 % 64 ≡ 1 → (get_or w (get_or w q 0 / 64 / 2) 0 ≡ 0 → ⊥) → (get_or w (get_or w q 0 / 64 / 2) 0 ≡ 1 + get_or w q 0 / 64 % 2 → ⊥)
      → visited v q n w ≡ stays n true w
  visit-false e z s = visit-set e z ∙ rw (ne_eqb (get_or w (get_or w q 0 / 64 / 2) 0) (1 + get_or w q 0 / 64 % 2) s) refl
