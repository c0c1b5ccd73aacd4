-- Laws of ranks: another digit at one place, one digit more; powers within the limits.
use Prim.Native.Nat.{ℕ, zero, suc, ◌+◌, ◌*◌, ◌^◌, ◌≤◌, ◌<◌}
use mathlib.Core.Path.{◌≡◌, ap, ◌∙◌}
use mathlib.Core.List.{List, [], ◌∷◌}
use native.Mathlib.Nat.{le_trans, pow-le-pow_left, pow-le-pow_right}
use native.Mathlib.Omega.{arith}
use lib.ListN.{length, get_or, set, take, length-set}
use lib.Seq.{take-suc}
use Rattle.theory.specs.Vectors.{rank, AllBelow}
use Rattle.theory.proofs.Vectors.{rank_lt, rank-snoc}

-- another digit at place i, with k places after it
pub rank-set : (s x : ℕ) (v : List ℕ) (i k : ℕ) → length v ≡ suc i + k → rank s (set v i x) + get_or v i 0 * s ^ k ≡ rank s v + x * s ^ k
rank-set s x [] i k e = absurd (omega arith)
rank-set s x (d ∷ v) zero k e = let n : length v ≡ k = omega arith in rw n (omega arith)
rank-set s x (d ∷ v) (suc i) k e = omega (arith, rank-set s x v i k (omega arith), ap (λ (n : ℕ). d * s ^ n) (length-set v i x))

pub all_below-set : (s x : ℕ) (v : List ℕ) (i : ℕ) → x < s → AllBelow s v → AllBelow s (set v i x)
all_below-set s x [] zero h b = b
all_below-set s x [] (suc i) h b = b
all_below-set s x (d ∷ v) zero h b = (h, b.1)
all_below-set s x (d ∷ v) (suc i) h b = (b.0, all_below-set s x v i h b.1)

pub all_below-at : (s : ℕ) (v : List ℕ) (i : ℕ) → i < length v → AllBelow s v → get_or v i 0 < s
all_below-at s [] i h b = absurd (omega arith)
all_below-at s (d ∷ v) zero h b = b.0
all_below-at s (d ∷ v) (suc i) h b = all_below-at s v i (omega arith) b.1

-- sizes and numbers of places within the limits have powers of at most 8^10
pub power-within : (s k : ℕ) → s ≤ 8 → k ≤ 10 → s ^ k ≤ 1073741824
power-within s k h l = le_trans (pow-le-pow_left h k) (pow-le-pow_right (omega arith) l)

-- a table has at most 512 cells
pub table-within : (s a : ℕ) → s ≤ 8 → a ≤ 3 → s ^ a ≤ 512
table-within s a h l = le_trans (pow-le-pow_left h a) (pow-le-pow_right (omega arith) l)

pub all_below-take : (s n : ℕ) (v : List ℕ) → AllBelow s v → AllBelow s (take n v)
all_below-take s zero v b = tt
all_below-take s (suc n) [] b = tt
all_below-take s (suc n) (d ∷ v) b = (b.0, all_below-take s n v b.1)

-- the rank of arguments is within their table
pub rank-within : (s : ℕ) (v : List ℕ) → s ≤ 8 → length v ≤ 3 → AllBelow s v → rank s v < 512
rank-within s v h l b = omega (arith, rank_lt s v b, table-within s (length v) h l)

-- the rank of one argument more
pub rank-more : (s : ℕ) (v : List ℕ) (i : ℕ) → i < length v → rank s (take (suc i) v) ≡ rank s (take i v) * s + get_or v i 0
rank-more s v i h = ap (rank s) (take-suc v i 0 h) ∙ rank-snoc s (take i v) (get_or v i 0)
