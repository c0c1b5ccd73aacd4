-- A turn of the bounds, and what they start.
use mathlib.Core.Path.{◌≡◌, sym, ap, ◌∙◌}
use mathlib.Core.List.{List, []}
use Prim.Native.Nat.{ℕ, suc, ◌+◌, ◌*◌, ◌≤◌, ◌<◌, ◌^◌}
use native.Mathlib.Nat.{not-suc-le-zero}
use native.Mathlib.Numerals.{add-one}
use native.Mathlib.Omega.{arith}
use lib.ListN.{length, get_or}
use lib.Seq.{slice, slice_empty}
use Rattle.loading.specs.Filling.{from, to, occurrences, literals, Filling, sums, EmptyBlocks}
use Rattle.loading.specs.Loading.{Tallied}
use Rattle.loading.proofs.Occurrences.{sum_below-cong, sum_below-up, literals-sum}

pub record Bounding (v base : ℕ) (w₀ w : List ℕ) (a l : ℕ) : Type 0 where
  pub turn : l ≤ 2 * v
  pub long : length w ≡ length w₀
  pub sum : a ≡ base + sums w₀ v l
  pub starts : (x : ℕ) → x < l → from v x w ≡ base + sums w₀ v x
  pub ends : (x : ℕ) → x < l → to v x w ≡ base + sums w₀ v x
  pub front : (j : ℕ) → j < 2 * v → get_or w j 0 ≡ get_or w₀ j 0
  pub rest : (j : ℕ) → 2 * v + 2 * l ≤ j → get_or w j 0 ≡ get_or w₀ j 0

module _ (v base : ℕ) (w₀ w : List ℕ) (a l : ℕ) (g : Bounding v base w₀ w a l) (size : 6 * v ≤ length w₀) (go : l < 2 * v) where
  abbrev at : ℕ
  at = 2 * v + 2 * l

  pub count-is : get_or w (at + 1) 0 ≡ get_or w₀ (2 * v + 2 * l + 1) 0
  count-is = g.rest (at + 1) (omega arith)

  sum-next : sums w₀ v (l + 1) ≡ sums w₀ v l + get_or w₀ (2 * v + 2 * l + 1) 0
  sum-next = ap (sums w₀ v) (add-one l)

  pub sum_fits : a + get_or w (at + 1) 0 ≤ base + sums w₀ v (2 * v)
  sum_fits = omega (arith, g.sum, count-is, sum-next, sum_below-up (λ y. to v y w₀) (l + 1) (2 * v) (omega arith))

pub bounding-done : (v base : ℕ) (w₀ w : List ℕ) (a l : ℕ) → Bounding v base w₀ w a l → 2 * v ≤ l → EmptyBlocks v base w₀ w
bounding-done v base w₀ w a l g past =
    record {
      long = g.long;
      starts = λ x h. g.starts x (omega (arith, h, past));
      ends = λ x h. g.ends x (omega (arith, h, past));
      front = g.front;
      rest = λ j h. g.rest j (omega (arith, h, past, g.turn));
    }

-- the counts of the clauses make no more than their literals
pub tallied-sum : (v : ℕ) (cs : List (List ℕ)) (w : List ℕ) → Tallied v cs w → sums w v (2 * v) ≤ literals cs
tallied-sum v cs w t = omega (arith, sum_below-cong (λ y. to v y w) (λ y. occurrences y cs) (2 * v) t.counts, literals-sum (2 * v) cs)

-- the bounds start a filling: no clause yet, with room for each literal's occurrences
module _ (v : ℕ) (cs : List (List ℕ)) (w w' : List ℕ) (t : Tallied v cs w) (b : EmptyBlocks v (7 * v + length cs) w w') (small : v < 2 ^ 18)
    (size : 7 * v + length cs + sums w v (2 * v) ≤ length w) where
  ends : (x : ℕ) → x < 2 * v → from v x w' + occurrences x cs ≡ 7 * v + length cs + sums w v (suc x)
  ends x h = omega (arith, b.starts x h, t.counts x h)

  up : (x y : ℕ) → x ≤ y → sums w v x ≤ sums w v y
  up = sum_below-up (λ y. to v y w)

  pub bounded-filling : Filling v cs [] w'
  bounded-filling =
      record {
        small = small;
        clauses = tt;
        size = omega (arith, b.long);
        count = omega arith;
        values = λ i h. b.front i (omega arith) ∙ t.values i h;
        weights = λ i k. absurd (not-suc-le-zero k);
        zeros = λ i k j. b.rest (7 * v + i) (omega arith) ∙ t.rest (7 * v + i) (omega arith);
        after = λ x k. omega (arith, b.starts x k);
        ordered = λ x k. omega (arith, b.starts x k, b.ends x k);
        within = λ x k. omega (arith, b.starts x k, b.ends x k);
        room = λ x k. omega (arith, ends x k, up (suc x) (2 * v) k, b.long);
        inner = λ x k. omega (arith, ends x k, up (suc x) (2 * v) k, tallied-sum v cs w t);
        apart = λ x y k j. omega (arith, ends x (omega arith), b.starts y j, up (suc x) y k);
        holds = λ x k. ap (λ (n : ℕ). slice n (to v x w') w') (b.starts x k ∙ sym (b.ends x k)) ∙ slice_empty (to v x w') w';
        rest = λ i h. b.rest i (omega (arith, h)) ∙ t.rest i (omega (arith, h));
      }
