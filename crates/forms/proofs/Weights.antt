-- The weights of arguments in a rank, for all arities together.
use Prim.Native.Nat.{ℕ, zero, suc, ◌+◌, ◌-◌, ◌*◌, ◌^◌, ◌≤◌, ◌<◌}
use mathlib.Core.Path.{◌≡◌, refl, sym, ap, ◌∙◌}
use mathlib.Core.List.{List, [], ◌∷◌}
use native.Mathlib.Nat.{zero-mul, add-mul, mul_assoc, mul_comm, mul-le-mul}
use native.Mathlib.Omega.{arith}
use lib.ListN.{length, take}
use lib.Seq.{length-take-le}
use Rattle.theory.specs.Vectors.{rank}
use Rattle.interpretation.proofs.Ranks.{table-within}
use Rattle.forms.specs.LinearForms.{rank_weight, argument_place}

-- argument j counts as often as there are vectors of the arguments after it
pub weight-within : (s a j : ℕ) → j < a → rank_weight s a j ≡ s ^ (a - j - 1)
weight-within s zero j h = absurd (omega arith)
weight-within s (suc a) zero h = let e : suc a - 0 - 1 ≡ a = omega arith in ap (λ (n : ℕ). s ^ n) (sym e)
weight-within s (suc a) (suc j) h = let e : a - j - 1 ≡ suc a - suc j - 1 = omega arith in weight-within s a j (omega arith) ∙ ap (λ (n : ℕ). s ^ n) e

pub weight-past : (s a j : ℕ) → a ≤ j → rank_weight s a j ≡ 0
weight-past s zero j h = refl
weight-past s (suc a) zero h = absurd (omega arith)
weight-past s (suc a) (suc j) h = weight-past s a j (omega arith)

pub weight-small : (s a j : ℕ) → s ≤ 8 → a ≤ 3 → rank_weight s a j ≤ 512
weight-small s zero j h l = omega arith
weight-small s (suc a) zero h l = table-within s a h (omega arith)
weight-small s (suc a) (suc j) h l = weight-small s a j h (omega arith)

pub place-within : (a j x : ℕ) → j < a → argument_place a j x ≡ x
place-within zero j x h = absurd (omega arith)
place-within (suc a) zero x h = refl
place-within (suc a) (suc j) x h = place-within a j x (omega arith)

pub place-past : (a j x : ℕ) → a ≤ j → argument_place a j x ≡ 0
place-past zero j x h = refl
place-past (suc a) zero x h = absurd (omega arith)
place-past (suc a) (suc j) x h = place-past a j x (omega arith)

-- the places of the arguments are below 10 if the arguments are
pub place-below : (a j x : ℕ) → (j < a → x < 10) → argument_place a j x < 10
place-below zero j x h = omega arith
place-below (suc a) zero x h = h (omega arith)
place-below (suc a) (suc j) x h = place-below a j x (λ l. h (omega arith))

-- the place of an argument that is not there does not count
weight-place : (s a j x : ℕ) (f : ℕ → ℕ) → rank_weight s a j * f (argument_place a j x) ≡ rank_weight s a j * f x
weight-place s zero j x f = zero-mul (f 0) ∙ sym (zero-mul (f x))
weight-place s (suc a) zero x f = refl
weight-place s (suc a) (suc j) x f = weight-place s a j x f

-- the numbers from argument j on, each as often as it counts
abbrev weighed : ℕ → ℕ → ℕ → List ℕ → ℕ
weighed s a j [] = 0
weighed s a j (u ∷ us) = rank_weight s a j * u + weighed s a (suc j) us

weighed-none : (s j : ℕ) (us : List ℕ) → weighed s 0 j us ≡ 0
weighed-none s j [] = refl
weighed-none s j (u ∷ us) = omega (arith, zero-mul u, weighed-none s (suc j) us)

weighed-after : (s a j : ℕ) (us : List ℕ) → weighed s (suc a) (suc j) us ≡ weighed s a j us
weighed-after s a j [] = refl
weighed-after s a j (u ∷ us) = ap (λ (n : ℕ). rank_weight s a j * u + n) (weighed-after s a (suc j) us)

weighed-rank : (s a : ℕ) (us : List ℕ) → a ≤ length us → weighed s a 0 us ≡ rank s (take a us)
weighed-rank s zero us h = weighed-none s 0 us
weighed-rank s (suc a) [] h = absurd (omega arith)
weighed-rank s (suc a) (u ∷ us) h =
    let e : u * s ^ length (take a us) ≡ u * s ^ a = ap (λ (n : ℕ). u * s ^ n) (length-take-le a us (omega arith)) in
    omega (arith, mul_comm (s ^ a) u, e, weighed-after s a 0 us, weighed-rank s a us (omega arith))

mul-sum : (c a b : ℕ) → c * (a + b) ≡ c * a + c * b
mul-sum c a b = omega (arith, mul_comm c (a + b), add-mul a b c, mul_comm a c, mul_comm b c)

-- three products of a form are their rank, as often as it counts
pub products-rank : (s a step x y z : ℕ) (f : ℕ → ℕ) → a ≤ 3
    → step * rank_weight s a 0 * f (argument_place a 0 x) + (step * rank_weight s a 1 * f (argument_place a 1 y) + step * rank_weight s a 2 * f (argument_place a 2 z)) ≡ step * rank s (take a (f x ∷ f y ∷ f z ∷ []))
products-rank s a step x y z f h =
    let p : ℕ = rank_weight s a 0 * f x in
    let q : ℕ = rank_weight s a 1 * f y in
    let r : ℕ = rank_weight s a 2 * f z in
    let e : p + (q + (r + 0)) ≡ rank s (take a (f x ∷ f y ∷ f z ∷ [])) = weighed-rank s a (f x ∷ f y ∷ f z ∷ []) h in
    let e' : p + (q + r) ≡ rank s (take a (f x ∷ f y ∷ f z ∷ [])) = omega (arith, e) in
    omega (
      arith,
      counted 0 x,
      counted 1 y,
      counted 2 z,
      mul-sum step p (q + r),
      mul-sum step q r,
      ap (λ (n : ℕ). step * n) e',
    )
  where
    counted : (j x : ℕ) → step * rank_weight s a j * f (argument_place a j x) ≡ step * (rank_weight s a j * f x)
    counted j x = mul_assoc step (rank_weight s a j) (f (argument_place a j x)) ∙ ap (λ (n : ℕ). step * n) (weight-place s a j x f)

-- a coefficient is small
pub coefficient-small : (step w : ℕ) → step ≤ 16 → w ≤ 512 → step * w ≤ 8192
coefficient-small step w h l = omega (arith, mul-le-mul {n₁ = step} {m₁ = w} {n₂ = 16} {m₂ = 512} h l)
