-- Counting through the choices of values, and through a list by places.
use Prim.Native.Nat.{ℕ, zero, suc, ◌+◌, ◌%◌, ◌^◌, ◌≤◌, ◌<◌}
use mathlib.Core.Path.{◌≡◌, refl, sym, ap, ◌∙◌, subst}
use mathlib.Core.List.{List, [], ◌∷◌, ◌++◌}
use native.Mathlib.Nat.{zero-mul, mod-eq_of_lt, pow-zero, pow-suc}
use native.Mathlib.Omega.{arith}
use lib.ListN.{length, get_or, take, replicate}
use lib.Seq.{length-take-le}
use Rattle.theory.specs.Lists.{concat_map, up_to}
use Rattle.theory.specs.Vectors.{vectors, rank, AllBelow}
use Rattle.theory.proofs.Lists.{concat_map-shift}
use Rattle.theory.proofs.Vectors.{rank-inj}
use Rattle.interpretation.specs.declared.vector.ArgumentVector.{ArgumentVector}
use Rattle.interpretation.specs.Vectors.{digits_in, first_vector, IsVector, IsNext}
use Rattle.interpretation.proofs.Counting.{vector-length, vector-below, vector-rank}
use Rattle.instancing.specs.Choices.{ChoiceAt}

-- a list, place by place
pub by-places : {A B : Type 0} (f : A → List B) (d : A) (xs : List A) → concat_map f xs ≡ concat_map (λ i. f (get_or xs i d)) (up_to (length xs))
by-places f d [] = refl
by-places {B = B} f d (x ∷ xs) =
    ap (λ (l : List B). f x ++ l) (by-places f d xs ∙ sym (concat_map-shift (λ i. f (get_or (x ∷ xs) i d)) 0 (length xs)))

module _ (s n i : ℕ) (h : i < s ^ n) where
  -- the vector of rank i is choice i
  ranked-chosen : (v : List ℕ) → length v ≡ n → AllBelow s v → rank s v ≡ i → v ≡ get_or (vectors s n) i []
  ranked-chosen v l b e =
      rank-inj s v (get_or (vectors s n) i []) (l ∙ sym (vector-length s n i h)) b (vector-below s n i h) (e ∙ sym (vector-rank s n i h))

zeros-rank : (s n k : ℕ) → rank s (take n (replicate k 0)) ≡ 0
zeros-rank s zero k = refl
zeros-rank s (suc n) zero = refl
zeros-rank s (suc n) (suc k) = let v : List ℕ = take n (replicate k 0) in omega (arith, zeros-rank s n k, zero-mul (s ^ length v))

zeros-below : (s n k : ℕ) → 1 ≤ s → AllBelow s (take n (replicate k 0))
zeros-below s zero k h = tt
zeros-below s (suc n) zero h = tt
zeros-below s (suc n) (suc k) h = (h, zeros-below s n k h)

-- where there is a choice of some values, there is one of one
positive : (s n : ℕ) → 0 < s ^ suc n → 1 ≤ s
positive zero n h = absurd (omega (arith, pow-suc 0 n))
positive (suc s) n h = omega arith

-- the first choice is of zeros
first-choice : (s n : ℕ) → s ≤ 8 → n ≤ 10 → ChoiceAt s n (first_vector n (record { 0 = s })) 0
first-choice s zero b l = record { count = refl; size = refl; small = b; places = l; long = refl; chosen = λ h. ranked-chosen s 0 0 h [] refl tt refl }
first-choice s (suc n) b l =
    record {
      count = refl;
      size = refl;
      small = b;
      places = l;
      long = refl;
      chosen = λ h.
          let v : List ℕ = take (suc n) (replicate 10 0) in
          ranked-chosen s (suc n) 0 h v (length-take-le {A = ℕ} (suc n) (replicate 10 0) l) (zeros-below s (suc n) 10 (positive s n h)) (zeros-rank s (suc n) 10);
    }

pub begun-choice : (s n : ℕ) (a : ArgumentVector) → s ≤ 8 → n ≤ 10 → a ≡ first_vector n (record { 0 = s }) → ChoiceAt s n a 0
begun-choice s n a b l e = subst (λ (b : ArgumentVector). ChoiceAt s n b 0) (sym e) (first-choice s n b l)

module _ (s n : ℕ) (a : ArgumentVector) (i : ℕ) (c : ChoiceAt s n a i) (h : i < s ^ n) where
  pub choice-length : length (digits_in a) ≡ n
  choice-length = ap length (c.chosen h) ∙ vector-length s n i h

  pub choice-below : AllBelow s (digits_in a)
  choice-below = subst (AllBelow s) (sym (c.chosen h)) (vector-below s n i h)

  choice-rank : rank s (digits_in a) ≡ i
  choice-rank = ap (rank s) (c.chosen h) ∙ vector-rank s n i h

  pub choice-vector : 1 ≤ s → IsVector a
  choice-vector p = record { places = rw c.count c.places; positive = rw c.size p; small = rw c.size c.small; below = rw c.size choice-below }

  -- the next vector is the next choice
  pub next-choice : (r : ArgumentVector) → length r.digits ≡ 10 → IsNext a r → ChoiceAt s n r (i + 1)
  next-choice r long x =
      record {
        count = x.count ∙ c.count;
        size = x.size ∙ c.size;
        small = c.small;
        places = c.places;
        long = long;
        chosen = λ k.
            let l : length (digits_in r) ≡ n = length-take-le r.count r.digits (omega (arith, x.vector.places, long)) ∙ x.count ∙ c.count in
            let b : AllBelow s (digits_in r) = subst (λ (z : ℕ). AllBelow z (digits_in r)) (x.size ∙ c.size) x.vector.below in
            let e : rank s (digits_in r) ≡ (rank s (digits_in a) + 1) % s ^ n =
            subst (λ (m : ℕ). rank s (digits_in r) ≡ (rank s (digits_in a) + 1) % s ^ m) c.count
            (subst (λ (z : ℕ). rank z (digits_in r) ≡ (rank z (digits_in a) + 1) % z ^ a.count) c.size x.next) in
            ranked-chosen s n (i + 1) k (digits_in r) l b (e ∙ ap (λ (j : ℕ). (j + 1) % s ^ n) choice-rank ∙ mod-eq_of_lt {n = i + 1} k);
      }

  -- of no values below 0 there is no choice after the first
  pub last-choice : s ≡ 0 → ChoiceAt s n a (i + 1)
  last-choice z = record { count = c.count; size = c.size; small = c.small; places = c.places; long = c.long; chosen = λ k. absurd (one_only s n i z k) }
    where
      one_only : (s n i : ℕ) → s ≡ 0 → i + 1 < s ^ n → ⊥
      one_only s zero i z k = omega (arith, pow-zero s)
      one_only s (suc n) i z k = omega (arith, positive s n (omega arith))
