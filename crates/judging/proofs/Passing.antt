-- Counting through the choices of values: the choice of each rank, and the first from there on that passes a test.
use Prim.Native.Nat.{ℕ, zero, suc, ◌+◌, ◌%◌, ◌^◌, ◌≤◌, ◌<◌}
use mathlib.Core.Path.{◌≡◌, refl, ap, ◌∙◌, subst}
use mathlib.Core.Bool.{Bool, true, false}
use mathlib.Core.Option.{Option, none, some}
use mathlib.Core.List.{List, ◌∷◌}
use native.Mathlib.Nat.{zero-mul, mod-eq_of_lt}
use native.Mathlib.Omega.{arith}
use lib.ListN.{length, drop, take, replicate, drop_of_length-le}
use lib.Seq.{length-take-le}
use Rattle.theory.specs.Lists.{first_that}
use Rattle.theory.specs.Vectors.{vectors, rank, AllBelow}
use Rattle.theory.proofs.Vectors.{length-vectors}
use Rattle.interpretation.specs.declared.vector.ArgumentVector.{ArgumentVector}
use Rattle.interpretation.specs.Vectors.{digits_in, first_vector, IsVector, IsNext}
use Rattle.interpretation.proofs.Counting.{drop-vectors}

-- a is the vector of rank i, if there is one
pub record Reached (s n : ℕ) (a : ArgumentVector) (i : ℕ) : Type 0 where
  pub count : a.count ≡ n
  pub size : a.size.0 ≡ s
  pub long : length a.digits ≡ 10
  pub vector : IsVector a
  pub within : i ≤ s ^ n
  pub ranked : i < s ^ n → rank s (digits_in a) ≡ i

zeros-rank : (s n k : ℕ) → rank s (take n (replicate k 0)) ≡ 0
zeros-rank s zero k = refl
zeros-rank s (suc n) zero = refl
zeros-rank s (suc n) (suc k) = let v : List ℕ = take n (replicate k 0) in omega (arith, zeros-rank s n k, zero-mul (s ^ length v))

zeros-below : (s n k : ℕ) → 1 ≤ s → AllBelow s (take n (replicate k 0))
zeros-below s zero k h = tt
zeros-below s (suc n) zero h = tt
zeros-below s (suc n) (suc k) h = (h, zeros-below s n k h)

-- the first vector has rank 0
pub first-reached : (s n : ℕ) → 1 ≤ s → s ≤ 8 → n ≤ 10 → Reached s n (first_vector n (record { 0 = s })) 0
first-reached s n h b l =
    record {
      count = refl;
      size = refl;
      long = refl;
      vector = record { places = l; positive = h; small = b; below = zeros-below s n 10 h };
      within = omega arith;
      ranked = λ k. zeros-rank s n 10;
    }

-- the next has the next rank
pub next-reached : (s n : ℕ) (a r : ArgumentVector) (i : ℕ) → length r.digits ≡ 10 → Reached s n a i → i < s ^ n → IsNext a r → Reached s n r (suc i)
next-reached s n a r i long p h x =
    record {
      count = x.count ∙ p.count;
      size = x.size ∙ p.size;
      long = long;
      vector = x.vector;
      within = h;
      ranked = λ k.
          let e : rank s (digits_in r) ≡ (rank s (digits_in a) + 1) % s ^ n =
          subst (λ (m : ℕ). rank s (digits_in r) ≡ (rank s (digits_in a) + 1) % s ^ m) p.count
          (subst (λ (z : ℕ). rank z (digits_in r) ≡ (rank z (digits_in a) + 1) % z ^ a.count) p.size x.next) in
          e ∙ ap (λ (j : ℕ). (j + 1) % s ^ n) (p.ranked h) ∙ mod-eq_of_lt {n = i + 1} (omega arith) ∙ omega arith;
    }

module _ {A : Type 0} (p : A → Bool) (x : A) (xs : List A) where
  first-here : p x ≡ true → first_that p (x ∷ xs) ≡ some x
  first-here e = go (p x) e
    where
      go : (b : Bool) → b ≡ true → (elim b as (λ _. Option A) [ true ↦ some x | false ↦ first_that p xs ]) ≡ some x
      go true e = refl
      go false e = let z : ◌≡◌ {A = ℕ} 0 1 = cc in absurd (omega arith)

  first-later : p x ≡ false → first_that p (x ∷ xs) ≡ first_that p xs
  first-later e = go (p x) e
    where
      go : (b : Bool) → b ≡ false → (elim b as (λ _. Option A) [ true ↦ some x | false ↦ first_that p xs ]) ≡ first_that p xs
      go true e = let z : ◌≡◌ {A = ℕ} 0 1 = cc in absurd (omega arith)
      go false e = refl

module _ (s n : ℕ) (a : ArgumentVector) (i : ℕ) (r : Reached s n a i) where
  pub reached-length : length (digits_in a) ≡ n
  reached-length = length-take-le a.count a.digits (omega (arith, r.vector.places, r.long)) ∙ r.count

  pub reached-below : AllBelow s (digits_in a)
  reached-below = rw r.size at r.vector.below

  module _ (p : List ℕ → Bool) where
    at : i < s ^ n → drop i (vectors s n) ≡ digits_in a ∷ drop (suc i) (vectors s n)
    at h = drop-vectors s n i (digits_in a) reached-length reached-below (r.ranked h)

    -- it passes the test, or the first that does comes after it
    pub found_here : i < s ^ n → p (digits_in a) ≡ true → first_that p (drop i (vectors s n)) ≡ some (digits_in a)
    found_here h e = ap (first_that p) (at h) ∙ first-here p (digits_in a) (drop (suc i) (vectors s n)) e

    pub found-later : i < s ^ n → p (digits_in a) ≡ false → first_that p (drop i (vectors s n)) ≡ first_that p (drop (suc i) (vectors s n))
    found-later h e = ap (first_that p) (at h) ∙ first-later p (digits_in a) (drop (suc i) (vectors s n)) e

    -- after the last there is none
    pub found_none : s ^ n ≤ i → first_that p (drop i (vectors s n)) ≡ none
    found_none h = ap (first_that p) (drop_of_length-le (vectors s n) {i = i} (omega (arith, length-vectors s n)))
