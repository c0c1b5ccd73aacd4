-- The number of one to seven digits is a 0 alone, or a number of at least 1 and at most seven nines.
use Prim.Native.Nat.{ℕ, ◌+◌, ◌*◌, ◌-◌, ◌≤◌, ◌<◌, ◌^◌}
use mathlib.Core.Path.{◌≡◌, refl, sym, ap, ◌∙◌}
use mathlib.Core.Bool.{Bool, true, false, cond, not, ◌&&◌, ◌||◌}
use mathlib.Core.Option.{Option, none, some}
use mathlib.Core.List.{List, [], ◌∷◌}
use native.Mathlib.Nat.{pow-suc, pow-le-pow_right, mul-le-mul_right}
use native.Mathlib.Omega.{arith}
use lib.Dec.{eqb, ltb, leb}
use lib.ListN.{length}
use Rattle.theory.specs.Bytes.{is_digit}
use Rattle.theory.specs.Lists.{all, same}
use Rattle.theory.specs.Program.{◌>>?◌}
use Rattle.theory.proofs.Tests.{both_false, eqb-false, eqb-ne, ltb-true, ltb-false, leb-of-≤, leb-of-<, and_left, and_right}
use Rattle.theory.proofs.Lists.{same_true}
use Rattle.solver.specs.SolverLines.{with_digits, read_positive}
use Rattle.solver.proofs.Decimals.{digit-is}
use Rattle.replies.specs.Hearing.{read_within}
use Rattle.allowance.specs.FinderProgram.{spelled, allowance_of}

-- the digits behind a number spell it
with-spelled : (n : ℕ) (ws : List ℕ) → with_digits n ws ≡ cond (all is_digit ws) (some (spelled n ws)) none
with-spelled n [] = refl
with-spelled n (b ∷ bs) = go (is_digit b) (with-spelled (n * 10 + (b - 48)) bs)
  where
    go : (q : Bool) → with_digits (n * 10 + (b - 48)) bs ≡ cond (all is_digit bs) (some (spelled (n * 10 + (b - 48)) bs)) none
        → cond q (with_digits (n * 10 + (b - 48)) bs) none ≡ cond (q && all is_digit bs) (some (spelled (n * 10 + (b - 48)) bs)) none
    go true ih = ih
    go false ih = refl

-- how large the number s is with k digits behind n
record Spelled (n k s : ℕ) : Type 0 where
  least : n * 10 ^ k ≤ s
  most : s < (n + 1) * 10 ^ k

spelled-size : (n : ℕ) (ws : List ℕ) → all is_digit ws ≡ true → Spelled n (length ws) (spelled n ws)
spelled-size n [] h = record { least = omega arith; most = omega arith }
spelled-size n (b ∷ bs) h =
    let d : ℕ = b - 48 in
    let p : ℕ = 10 ^ length bs in
    let r = digit-is b (and_left (is_digit b) (all is_digit bs) h) in
    let z = spelled-size (n * 10 + d) bs (and_right (is_digit b) (all is_digit bs) h) in
    let digit : d * p ≤ 9 * p = mul-le-mul_right p (omega (arith, r.0, r.1)) in
    let below = ap (λ (q : ℕ). n * q) (pow-suc 10 (length bs)) in
    let above = ap (λ (q : ℕ). (n + 1) * q) (pow-suc 10 (length bs)) in
    record { least = omega (arith, z.least, below); most = omega (arith, z.most, above, digit) }

pub zero_alone : (w : List ℕ) → same w (48 ∷ []) ≡ true → some 0 ≡ allowance_of w
zero_alone w e = sym (ap allowance_of (same_true w (48 ∷ []) e))

pub allowance-within : (w : List ℕ) → same w (48 ∷ []) ≡ false → read_within 9999999 w ≡ allowance_of w
unfolding read_within read_positive ◌>>?◌
allowance-within [] h = refl
allowance-within (b ∷ bs) h = go (eqb b 48) refl
  where
    s : ℕ
    s = spelled 0 (b ∷ bs)

    -- behind a zero there is a digit
    long : (bs : List ℕ) → eqb b 48 ≡ true → same (b ∷ bs) (48 ∷ []) ≡ false → eqb (length bs) 0 ≡ false
    long [] e h = absurd (both_false e (and-one (eqb b 48) h))
      where
        and-one : (q : Bool) → (q && true) ≡ false → q ≡ false
        and-one false h = refl
        and-one true h = h
    long (c ∷ cs) e h = eqb-false (length (c ∷ cs)) 0 (λ e. omega (arith, e))

    first : ℕ
    first = 0 * 10 + (b - 48)

    size : eqb b 48 ≡ false → all is_digit (b ∷ bs) ≡ true → ((1 ≤ first) × (first ≤ 9)) × Spelled first (length bs) s
    size e d =
        let r = digit-is b (and_left (is_digit b) (all is_digit bs) d) in
        ((omega (arith, r.0, eqb-ne b 48 e), omega (arith, r.1)), spelled-size first bs (and_right (is_digit b) (all is_digit bs) d))

    -- seven digits or fewer are at most seven nines
    seven : (q : Bool) → ltb (length bs) 7 ≡ q → eqb b 48 ≡ false → all is_digit (b ∷ bs) ≡ true → leb s 9999999 ≡ q
    seven true l e d =
        let few : 10 ^ length bs ≤ 10 ^ 6 = pow-le-pow_right (omega arith) {i = length bs} {j = 6} (omega (arith, ltb-true (length bs) 7 l)) in
        let digit : (first + 1) * 10 ^ length bs ≤ 10 * 10 ^ length bs = mul-le-mul_right (10 ^ length bs) (omega (arith, (size e d).0.1)) in
        leb-of-≤ s 9999999 (omega (arith, few, digit, (size e d).1.most))
    seven false l e d =
        let many : 10 ^ 7 ≤ 10 ^ length bs = pow-le-pow_right (omega arith) {i = 7} {j = length bs} (ltb-false (length bs) 7 l) in
        let digit : 1 * 10 ^ length bs ≤ first * 10 ^ length bs = mul-le-mul_right (10 ^ length bs) (omega (arith, (size e d).0.0)) in
        leb-of-< s 9999999 (omega (arith, many, digit, (size e d).1.least))

    no_other : (q r : Bool) → none ≡ cond (q && r && false) (some s) none
    no_other false false = refl
    no_other false true = refl
    no_other true false = refl
    no_other true true = refl

    limit : (q r : Bool) → all is_digit (b ∷ bs) ≡ q → eqb b 48 ≡ false → ltb (length bs) 7 ≡ r → (cond q (some s) none >>? λ n. cond (leb n 9999999) (some n) none) ≡ cond (q && r && true) (some s) none
    limit false false d e l = refl
    limit false true d e l = refl
    limit true false d e l = ap (λ (q : Bool). cond q (some s) none) (seven false l e d)
    limit true true d e l = ap (λ (q : Bool). cond q (some s) none) (seven true l e d)

    go : (q : Bool) → eqb b 48 ≡ q → (cond q none (with_digits 0 (b ∷ bs)) >>? λ n. cond (leb n 9999999) (some n) none) ≡ cond (all is_digit (b ∷ bs) && ltb (length bs) 7 && (not q || eqb (length bs) 0)) (some s) none
    go true e =
        no_other (all is_digit (b ∷ bs)) (ltb (length bs) 7) ∙ ap (λ (q : Bool). cond (all is_digit (b ∷ bs) && ltb (length bs) 7 && (false || q)) (some s) none) (sym (long bs e h))
    go false e = ap (λ (o : Option ℕ). o >>? λ n. cond (leb n 9999999) (some n) none) (with-spelled 0 (b ∷ bs)) ∙ limit (all is_digit (b ∷ bs)) (ltb (length bs) 7) refl e refl
