-- The first element of a list that passes a test, looked for one element after the other.
use Prim.Native.Nat.{ℕ, suc, ◌+◌, ◌<◌}
use mathlib.Core.Path.{◌≡◌, refl, ap, ◌∙◌}
use mathlib.Core.Bool.{Bool, true, false}
use mathlib.Core.Option.{Option, none, some}
use mathlib.Core.List.{List}
use native.Mathlib.Numerals.{add-one}
use native.Mathlib.Omega.{arith}
use lib.ListN.{length, get_or, drop, drop_of_length-le}
use lib.Seq.{drop-cons}
use Rattle.theory.specs.Lists.{place_at, place_that}

-- the place in the whole list of what has a place from i on
unfoldable pub behind : ℕ → Option ℕ → Option ℕ
behind i none = none
behind i (some k) = some (i + k)

module _ {A : Type 0} (p : A → Bool) (xs : List A) where
  -- none before i passes: the first is the first from i on
  unfoldable pub FirstFrom : ℕ → Type 0
  FirstFrom i = place_that p xs ≡ behind i (place_that p (drop i xs))

  pub first-start : FirstFrom 0
  unfolding FirstFrom behind
  first-start = go (place_that p xs)
    where
      go : (o : Option ℕ) → o ≡ behind 0 o
      go none = refl
      go (some k) = let e : k ≡ 0 + k = omega arith in ap some e

  module _ (i : ℕ) (z : FirstFrom i) where
    module _ (d : A) (h : i < length xs) where
      first : place_that p (drop i xs) ≡ place_at (p (get_or xs i d)) (place_that p (drop (i + 1) xs))
      first = rw (add-one, drop-cons xs i d h)

      pub first-here : p (get_or xs i d) ≡ true → place_that p xs ≡ some i
      unfolding FirstFrom behind
      first-here e =
          let n : i + 0 ≡ i = omega arith in
          z ∙ ap (behind i) (first ∙ ap (λ (b : Bool). place_at b (place_that p (drop (i + 1) xs))) e) ∙ ap some n

      pub first_on : p (get_or xs i d) ≡ false → FirstFrom (i + 1)
      unfolding FirstFrom behind
      first_on e = z ∙ ap (behind i) (first ∙ ap (λ (b : Bool). place_at b (place_that p (drop (i + 1) xs))) e) ∙ go (place_that p (drop (i + 1) xs))
        where
          go : (o : Option ℕ) → behind i (place_at false o) ≡ behind (i + 1) o
          go none = refl
          go (some k) = let n : i + suc k ≡ i + 1 + k = omega arith in ap some n

    pub first-nowhere : length xs ≡ i → place_that p xs ≡ none
    unfolding FirstFrom behind
    first-nowhere e = z ∙ ap (λ (ys : List A). behind i (place_that p ys)) (drop_of_length-le xs {i = i} (omega arith))
