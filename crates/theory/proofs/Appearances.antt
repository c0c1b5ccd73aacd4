-- Letters in order of first appearance: `distinct` keeps exactly the numbers of a list, each before all that appear after it.
use Prim.Native.Nat.{ℕ, suc}
use mathlib.Core.Path.{◌≡◌, refl, ap, ◌∙◌}
use mathlib.Core.Logic.{⊎_elim, ◌↔◌}
use mathlib.Core.Bool.{Bool, true, false, cond}
use mathlib.Core.List.{List, [], ◌∷◌}
use native.Mathlib.Omega.{arith}
use lib.Dec.{eqb}
use lib.ListN.{take}
use Rattle.theory.specs.Lists.{elem, remove, distinct}
use Rattle.theory.specs.Claims.Explaining.{AppearsBefore, InOrder}
use Rattle.theory.proofs.Tests.{both_false, true-or-false, eqb-true, or-false-join}
use Rattle.theory.proofs.Lists.{elem-distinct}
use Rattle.theory.proofs.Distinct.{remove-removed, remove-elem, distinct-elem}

pub distinct-exactly : (x : ℕ) (ys : List ℕ) → (elem x (distinct ys) ≡ true) ↔ (elem x ys ≡ true)
distinct-exactly x ys = (λ h. ⊎_elim (λ e. e) (λ e. absurd (both_false h (distinct-elem x ys e))) (true-or-false (elem x ys)), elem-distinct x ys)

-- what is left when a number is removed stood there, and is another number
module _ (x y : ℕ) (xs : List ℕ) (h : elem y (remove x xs) ≡ true) where
  removed-stood : elem y xs ≡ true
  removed-stood = ⊎_elim (λ e. e) (λ e. absurd (both_false h (remove-elem y x xs e))) (true-or-false (elem y xs))

  removed-other : eqb y x ≡ false
  removed-other = ⊎_elim (λ e. absurd (both_false h (ap (λ (z : ℕ). elem z (remove x xs)) (eqb-true y x e) ∙ remove-removed x xs))) (λ e. e) (true-or-false (eqb y x))

-- one appearance more in front, of a number that is removed
in-order-after : (o : ℕ) (ys xs : List ℕ) → InOrder ys xs → InOrder (o ∷ ys) (remove o xs)
in-order-after o ys [] h = tt
in-order-after o ys (x ∷ xs) h = go (eqb o x) (in-order-after o ys xs h.1)
  where
    go : (b : Bool) → InOrder (o ∷ ys) (remove o xs) → InOrder (o ∷ ys) (cond b (remove o xs) (x ∷ remove o xs))
    go true ih = ih
    go false ih = (λ y e. after y (h.0 y (removed-stood o y xs e)) (removed-other o y xs e), ih)
      where
        after : (y : ℕ) → AppearsBefore ys x y → eqb y o ≡ false → AppearsBefore (o ∷ ys) x y
        after y a ne = (suc a.0, omega (arith, a.1), a.2, or-false-join (eqb y o) (elem y (take (suc a.0) ys)) ne a.3)

pub distinct-in-order : (ys : List ℕ) → InOrder ys (distinct ys)
distinct-in-order [] = tt
distinct-in-order (o ∷ ys) =
    (λ y e. (0, omega arith, refl, or-false-join (eqb y o) false (removed-other o y (distinct ys) e) refl), in-order-after o ys (distinct ys) (distinct-in-order ys))
