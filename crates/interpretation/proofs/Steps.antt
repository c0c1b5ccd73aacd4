-- The step to the next vector: the places passed were at their last digit and are 0.
use Prim.Native.Nat.{ℕ, suc, ◌+◌, ◌*◌, ◌-◌, ◌^◌, ◌≤◌, ◌<◌}
use mathlib.Core.Path.{◌≡◌, refl, sym, ap, ◌∙◌}
use mathlib.Core.List.{List}
use native.Mathlib.Nat.{add-mul, one-mul, zero-mul, mul_comm, pow-zero, pow-suc, sub-zero, mod-eq_of_lt, mod_self}
use native.Mathlib.Omega.{arith}
use lib.ListN.{length, get_or, set, length-set}
use lib.Seq.{length-take-le, get_or-take, take-set-lt}
use Rattle.theory.specs.Vectors.{rank, AllBelow}
use Rattle.theory.proofs.Vectors.{rank_lt}
use Rattle.interpretation.specs.declared.vector.ArgumentVector.{ArgumentVector}
use Rattle.interpretation.specs.Vectors.{digits_in, IsVector, IsNext}
use Rattle.interpretation.proofs.Ranks.{rank-set, all_below-set, all_below-at}

-- the places from i on were at the last digit and are 0 in r
pub record Passed (a r : ArgumentVector) (i : ℕ) : Type 0 where
  pub within : i ≤ a.count
  pub count : r.count ≡ a.count
  pub size : r.size.0 ≡ a.size.0
  pub long : length r.digits ≡ 10
  pub below : AllBelow a.size.0 (digits_in r)
  pub carried : rank a.size.0 (digits_in r) + a.size.0 ^ (a.count - i) ≡ rank a.size.0 (digits_in a) + 1

-- the last place that is not passed
pub before : (a r : ArgumentVector) (i : ℕ) → 0 < i → Passed a r i → Passed a r (suc (i - 1))
before a r i h p = let e : suc (i - 1) ≡ i = omega arith in rw e p

-- r with the digit x at place i
abbrev pub with : ArgumentVector → ℕ → ℕ → ArgumentVector
with r i x = record { digits = set r.digits i x; count = r.count; size = r.size }

-- no place is passed at first
pub none_passed : (a : ArgumentVector) → length a.digits ≡ 10 → IsVector a → Passed a a a.count
none_passed a long v =
    let z : a.count - a.count ≡ 0 = omega arith in
    record { within = omega arith; count = refl; size = refl; long = long; below = v.below; carried = rw (z, pow-zero) }

module _ (a r : ArgumentVector) (i : ℕ) (v : IsVector a) (p : Passed a r (suc i)) where
  digits-length : length (digits_in r) ≡ a.count
  digits-length = length-take-le r.count r.digits (omega (arith, p.long, p.count, v.places)) ∙ p.count

  digit : get_or (digits_in r) i 0 ≡ get_or r.digits i 0
  digit = get_or-take r.count r.digits i 0 (omega (arith, p.within, p.count))

  pub digit-below : get_or r.digits i 0 < a.size.0
  digit-below = rw (← digit) (all_below-at a.size.0 (digits_in r) i (omega (arith, digits-length, p.within)) p.below)

  digits-with : (x : ℕ) → digits_in (with r i x) ≡ set (digits_in r) i x
  digits-with x = take-set-lt r.count r.digits i x (omega (arith, p.within, p.count))

  rank-with : (x : ℕ) → rank a.size.0 (digits_in (with r i x)) + get_or r.digits i 0 * a.size.0 ^ (a.count - suc i) ≡ rank a.size.0 (digits_in r) + x * a.size.0 ^ (a.count - suc i)
  rank-with x =
      ap (λ (l : List ℕ). rank a.size.0 l + get_or r.digits i 0 * a.size.0 ^ (a.count - suc i)) (digits-with x)
      ∙ ap (λ (d : ℕ). rank a.size.0 (set (digits_in r) i x) + d * a.size.0 ^ (a.count - suc i)) (sym digit)
      ∙ rank-set a.size.0 x (digits_in r) i (a.count - suc i) (omega (arith, digits-length, p.within))

  below-with : (x : ℕ) → x < a.size.0 → AllBelow a.size.0 (digits_in (with r i x))
  below-with x h = rw (digits-with x) (all_below-set a.size.0 x (digits_in r) i h p.below)

  -- a place at its last digit is passed
  pub one-passed : a.size.0 ≤ get_or r.digits i 0 + 1 → Passed a (with r i 0) i
  one-passed full =
      let d : get_or r.digits i 0 + 1 ≡ a.size.0 = omega (arith, digit-below) in
      let e : a.count - i ≡ suc (a.count - suc i) = omega (arith, p.within) in
      let q : ℕ = a.size.0 ^ (a.count - suc i) in
      record {
        within = omega (arith, p.within);
        count = p.count;
        size = p.size;
        long = length-set r.digits i 0 ∙ p.long;
        below = below-with 0 v.positive;
        carried =
            rw (e, pow-suc)
            (omega (
              arith,
              rank-with 0,
              p.carried,
              zero-mul q,
              add-mul (get_or r.digits i 0) 1 q,
              one-mul q,
              ap (λ (m : ℕ). m * q) d,
              mul_comm a.size.0 q,
            ));
      }

  -- the first that is not gets the next digit
  pub stepped : get_or r.digits i 0 + 1 < a.size.0 → IsNext a (with r i (get_or r.digits i 0 + 1))
  stepped less =
      let q : ℕ = a.size.0 ^ (a.count - suc i) in
      let t : ArgumentVector = with r i (get_or r.digits i 0 + 1) in
      let b : AllBelow a.size.0 (digits_in t) = below-with (get_or r.digits i 0 + 1) less in
      let e : rank a.size.0 (digits_in t) ≡ rank a.size.0 (digits_in a) + 1 =
      omega (arith, rank-with (get_or r.digits i 0 + 1), p.carried, add-mul (get_or r.digits i 0) 1 q, one-mul q) in
      let n : length (digits_in t) ≡ a.count = ap length (digits-with (get_or r.digits i 0 + 1)) ∙ length-set (digits_in r) i (get_or r.digits i 0 + 1) ∙ digits-length in
      let h : rank a.size.0 (digits_in a) + 1 < a.size.0 ^ a.count = rw (e, n) at (rank_lt a.size.0 (digits_in t) b) in
      record {
        count = p.count;
        size = p.size;
        vector = record { places = rw p.count v.places; positive = rw p.size v.positive; small = rw p.size v.small; below = rw p.size b };
        next = e ∙ sym (mod-eq_of_lt h);
      }

-- where every place was at its last digit, the first vector comes
pub all-passed : (a r : ArgumentVector) → IsVector a → length a.digits ≡ 10 → Passed a r 0 → IsNext a r
all-passed a r v long p =
    let c : rank a.size.0 (digits_in r) + a.size.0 ^ a.count ≡ rank a.size.0 (digits_in a) + 1 = rw sub-zero at p.carried in
    let n : length (digits_in a) ≡ a.count = length-take-le a.count a.digits (omega (arith, v.places)) in
    let b : rank a.size.0 (digits_in a) < a.size.0 ^ a.count = rw n at (rank_lt a.size.0 (digits_in a) v.below) in
    let z : rank a.size.0 (digits_in r) ≡ 0 = omega arith in
    let w : rank a.size.0 (digits_in a) + 1 ≡ a.size.0 ^ a.count = omega arith in
    record {
      count = p.count;
      size = p.size;
      vector = record { places = rw p.count v.places; positive = rw p.size v.positive; small = rw p.size v.small; below = rw p.size p.below };
      next = rw (z, w, mod_self);
    }
