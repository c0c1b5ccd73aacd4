-- A work area that is being filled: the weights and the blocks of the clauses that are in it, of those that were counted.
use Rattle.std.specs.Prelude.{◌≡◌, Bool, false, cond, List, [], ◌∷◌, map, ℕ, zero, suc, ◌+◌, ◌-◌, ◌*◌, ◌≤◌, ◌<◌, ◌^◌, length, get_or, set, eqb, ltb}
use Rattle.std.proofs.Math.Seq.{slice}
use Rattle.theory.specs.Lists.{sum}
use Rattle.propagation.specs.Clauses.{All, weight, holders}
use Rattle.propagation.specs.WorkArea.{ShortClause}

-- where the block of literal x starts and ends
abbrev pub from : ℕ → ℕ → List ℕ → ℕ
from v x w = get_or w (2 * v + 2 * x) 0

abbrev pub to : ℕ → ℕ → List ℕ → ℕ
to v x w = get_or w (2 * v + 2 * x + 1) 0

-- how often the literal x stands in a clause
abbrev pub occurs : ℕ → List ℕ → ℕ
occurs x [] = 0
occurs x (y ∷ ys) = cond (eqb x y) 1 0 + occurs x ys

-- how often the literal x stands in the clauses
abbrev pub occurrences : ℕ → List (List ℕ) → ℕ
occurrences x cs = sum (map (occurs x) cs)

-- how many literals the clauses have, repeats included
abbrev pub literals : List (List ℕ) → ℕ
literals cs = sum (map length cs)

-- where what the clauses cs need of a work area ends
abbrev pub area_end : ℕ → List (List ℕ) → ℕ
area_end v cs = 7 * v + length cs + literals cs

-- The clauses ds, each literal once, are in the work area, and there is room for cs: the block of x has room for each occurrence of x in cs.
pub record Filling (v : ℕ) (cs ds : List (List ℕ)) (w : List ℕ) : Type 0 where
  pub small : v < 2 ^ 18
  pub clauses : All (ShortClause v) ds
  pub size : 7 * v + length cs ≤ length w
  pub count : length ds ≤ length cs
  -- no variable has a value
  pub values : (i : ℕ) → i < v → get_or w i 0 ≡ 0
  pub weights : (i : ℕ) → i < length ds → get_or w (7 * v + i) 0 ≡ weight [] (get_or ds i [])
  pub zeros : (i : ℕ) → length ds ≤ i → i < length cs → get_or w (7 * v + i) 0 ≡ 0
  pub after : (x : ℕ) → x < 2 * v → 7 * v + length cs ≤ from v x w
  pub ordered : (x : ℕ) → x < 2 * v → from v x w ≤ to v x w
  pub within : (x : ℕ) → x < 2 * v → to v x w ≤ from v x w + occurrences x cs
  pub room : (x : ℕ) → x < 2 * v → from v x w + occurrences x cs ≤ length w
  pub inner : (x : ℕ) → x < 2 * v → from v x w + occurrences x cs ≤ area_end v cs
  pub apart : (x y : ℕ) → x < y → y < 2 * v → from v x w + occurrences x cs ≤ from v y w
  pub holds : (x : ℕ) → x < 2 * v → slice (from v x w) (to v x w) w ≡ holders (7 * v) x ds
  -- behind what cs need stand zeros
  pub rest : (i : ℕ) → area_end v cs ≤ i → get_or w i 0 ≡ 0

-- w with literal u in the clause whose weight stands at c
abbrev pub entered : ℕ → ℕ → ℕ → List ℕ → List ℕ
entered v u c w = set (set (set w (to v u w) c) (2 * v + 2 * u + 1) (to v u w + 1)) c (get_or w c 0 + 64 * u + 1)

-- whether c is the last entry of the part from f to t
abbrev pub ends_with : ℕ → ℕ → ℕ → List ℕ → Bool
ends_with f t c w = cond (ltb f t) (eqb (get_or w (t - 1) 0) c) false

-- w with literal u in the clause whose weight stands at c, unless its block ends with that clause
abbrev pub enters : ℕ → ℕ → ℕ → List ℕ → List ℕ
enters v u c w = cond (ends_with (from v u w) (to v u w) c w) w (entered v u c w)

-- the sum of f at the numbers below n
abbrev pub sum_below : (ℕ → ℕ) → ℕ → ℕ
sum_below f zero = 0
sum_below f (suc n) = sum_below f n + f n

-- how many occurrences the literals below x have, by the counts that stand where their blocks' ends will
abbrev pub sums : List ℕ → ℕ → ℕ → ℕ
sums w v x = sum_below (λ y. to v y w) x

-- w' is w with empty blocks, one after the other from base on, each with room for its count
pub record EmptyBlocks (v base : ℕ) (w w' : List ℕ) : Type 0 where
  pub starts : (x : ℕ) → x < 2 * v → from v x w' ≡ base + sums w v x
  pub ends : (x : ℕ) → x < 2 * v → to v x w' ≡ base + sums w v x
  pub long : length w' ≡ length w
  pub front : (j : ℕ) → j < 2 * v → get_or w' j 0 ≡ get_or w j 0
  pub rest : (j : ℕ) → 6 * v ≤ j → get_or w' j 0 ≡ get_or w j 0
