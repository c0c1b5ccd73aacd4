-- Laws of the search for a row.
use Prim.Native.Nat.{ℕ, zero, suc, ◌+◌, ◌<◌}
use mathlib.Core.Path.{◌≡◌, refl, ap, ◌∙◌}
use mathlib.Core.Bool.{Bool, true, false, cond, not, ◌&&◌}
use native.Mathlib.Omega.{arith}
use mathlib.Core.List.{List, [], ◌∷◌}
use mathlib.Core.Option.{Option, none, some}
use lib.Dec.{eqb}
use lib.ListN.{length, get_or}
use Rattle.theory.specs.Lists.{place_at, place_that}
use Rattle.theory.proofs.Tests.{eqb-true, eqb-of-≡, and_left, and_right, and-join}
use Rattle.std.specs.List.{position_or_len}
use Rattle.lifting.specs.declared.table.Row.{Row}
use Rattle.lifting.specs.Rows.{same_row}

-- the four tests of two rows
module _ (x y : Row) where
  abbrev a : Bool
  a = eqb x.function y.function

  abbrev b : Bool
  b = eqb (get_or x.arguments 0 0) (get_or y.arguments 0 0)

  abbrev c : Bool
  c = eqb (get_or x.arguments 1 0) (get_or y.arguments 1 0)

  abbrev d : Bool
  d = eqb (get_or x.arguments 2 0) (get_or y.arguments 2 0)

  -- what rows that pass them have
  pub row-function : same_row x y ≡ true → x.function ≡ y.function
  row-function e = eqb-true x.function y.function (and_left a (b && (c && d)) e)

  pub row-arguments : same_row x y ≡ true → (j : ℕ) → j < 3 → get_or x.arguments j 0 ≡ get_or y.arguments j 0
  row-arguments e zero k = eqb-true (get_or x.arguments 0 0) (get_or y.arguments 0 0) (and_left b (c && d) (and_right a (b && (c && d)) e))
  row-arguments e (suc zero) k = eqb-true (get_or x.arguments 1 0) (get_or y.arguments 1 0) (and_left c d (and_right b (c && d) (and_right a (b && (c && d)) e)))
  row-arguments e (suc (suc zero)) k = eqb-true (get_or x.arguments 2 0) (get_or y.arguments 2 0) (and_right c d (and_right b (c && d) (and_right a (b && (c && d)) e)))
  row-arguments e (suc (suc (suc j))) k = absurd (omega arith)

  -- and rows that have it pass them
  pub arguments-row : x.function ≡ y.function → ((j : ℕ) → j < 3 → get_or x.arguments j 0 ≡ get_or y.arguments j 0) → same_row x y ≡ true
  arguments-row e k =
      and-join a (b && (c && d)) (eqb-of-≡ x.function y.function e)
      (and-join b (c && d) (eqb-of-≡ (get_or x.arguments 0 0) (get_or y.arguments 0 0) (k 0 (omega arith)))
      (and-join c d (eqb-of-≡ (get_or x.arguments 1 0) (get_or y.arguments 1 0) (k 1 (omega arith)))
      (eqb-of-≡ (get_or x.arguments 2 0) (get_or y.arguments 2 0) (k 2 (omega arith)))))

-- the place, or the number that stands for none
abbrev pub place_or : ℕ → Option ℕ → ℕ
place_or n none = n
place_or n (some i) = i

-- where the tests of two lists' elements agree, the first that passes stands at the same place
pub same_place : {A B : Type 0} (p : A → Bool) (q : B → Bool) (xs : List A) (ys : List B) (d : A) (e : B) → length xs ≡ length ys
    → ((i : ℕ) → i < length ys → p (get_or xs i d) ≡ q (get_or ys i e)) → position_or_len p xs ≡ place_or (length ys) (place_that q ys)
same_place p q [] [] d e n h = refl
same_place p q [] (y ∷ ys) d e n h = absurd (omega arith)
same_place p q (x ∷ xs) [] d e n h = absurd (omega arith)
same_place p q (x ∷ xs) (y ∷ ys) d e n h =
    ap (λ (b : Bool). cond (not b) (1 + position_or_len p xs) 0) (h 0 (omega arith))
    ∙ go (q y) (place_that q ys) refl (same_place p q xs ys d e (omega arith) (λ i l. h (suc i) (omega arith)))
  where
    go : (b : Bool) (o : Option ℕ) → place_that q ys ≡ o → position_or_len p xs ≡ place_or (length ys) (place_that q ys)
        → cond (not b) (1 + position_or_len p xs) 0 ≡ place_or (suc (length ys)) (place_at b o)
    go true o k e = refl
    go false none k e = omega (arith, e, ap (place_or (length ys)) k)
    go false (some i) k e = omega (arith, e, ap (place_or (length ys)) k)
