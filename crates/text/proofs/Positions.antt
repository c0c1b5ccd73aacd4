-- What `position` finds, as the theory's places say it.
use Prim.Native.Nat.{ℕ, suc, ◌+◌}
use mathlib.Core.Path.{◌≡◌, refl, ap, ◌∙◌}
use mathlib.Core.Bool.{Bool, true, false, cond}
use mathlib.Core.Option.{Option, none, some}
use mathlib.Core.List.{List, [], ◌∷◌, map}
use native.Mathlib.Omega.{arith}
use Rattle.std.specs.Prelude.{Some}
use Rattle.std.specs.List.{position, position_from}
use Rattle.std.proofs.lemmas.Iterator.Adapters.{position_from-zero}
use Rattle.theory.specs.Lists.{place_at, place_that}
use Rattle.theory.specs.Options.{told}

-- a place, counted from the i-th on
abbrev further : ℕ → Option ℕ → Option ℕ
further i none = none
further i (some n) = some (i + n)

module _ {A : Type 0} (p : A → Bool) where
  from : (i : ℕ) (xs : List A) → told (position_from p i xs) ≡ further i (place_that p xs)
  from i [] = refl
  from i (x ∷ xs) = go (p x) (from (i + 1) xs)
    where
      later : (o : Option ℕ) → further (i + 1) o ≡ further i (place_at false o)
      later none = refl
      later (some n) = let e : i + 1 + n ≡ i + suc n = omega arith in ap some e

      go : (b : Bool) → told (position_from p (i + 1) xs) ≡ further (i + 1) (place_that p xs) → told (cond b (Some i) (position_from p (i + 1) xs)) ≡ further i (place_at b (place_that p xs))
      go true h = let e : i ≡ i + 0 = omega arith in ap some e
      go false h = h ∙ later (place_that p xs)

  -- the first place that passes
  pub told-position : (xs : List A) → told (position p xs) ≡ place_that p xs
  told-position xs = ap told (position_from-zero p xs) ∙ from 0 xs ∙ go (place_that p xs)
    where
      go : (o : Option ℕ) → further 0 o ≡ o
      go none = refl
      go (some n) = let e : 0 + n ≡ n = omega arith in ap some e

  -- and where each element stands for a value that is tested
  pub place-mapped : {B : Type 0} (f : B → A) (ys : List B) → place_that (λ y. p (f y)) ys ≡ place_that p (map f ys)
  place-mapped f [] = refl
  place-mapped f (y ∷ ys) = ap (place_at (p (f y))) (place-mapped f ys)
