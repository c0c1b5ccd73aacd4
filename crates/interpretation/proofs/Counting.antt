-- Counting through the vectors: the vector of rank i is the one at place i of them all.
use Prim.Native.Nat.{ℕ, suc, ◌^◌, ◌<◌}
use mathlib.Core.Path.{◌≡◌, sym, ap, ◌∙◌}
use mathlib.Core.Bool.{Bool, true, ◌&&◌}
use mathlib.Core.List.{List, [], ◌∷◌}
use native.Mathlib.Nat.{zero-add}
use native.Mathlib.Omega.{arith}
use lib.Dec.{eqb, ltb}
use lib.ListN.{length, get_or, drop}
use lib.Seq.{drop-cons}
use Rattle.theory.specs.Lists.{all}
use Rattle.theory.specs.Vectors.{vectors, rank, AllBelow}
use Rattle.theory.proofs.Tests.{eqb-true, eqb-of-≡, and_left, and_right, and-join}
use Rattle.theory.proofs.Lists.{all-at, map_at, get_d-up_from}
use Rattle.theory.proofs.Vectors.{vectors-all, rank-vectors, length-vectors, rank_lt, rank-inj, all→AllBelow, AllBelow→all}

-- each is a list of k numbers below s
is_one : ℕ → ℕ → List ℕ → Bool
is_one s k v = eqb (length v) k && all (λ d. ltb d s) v

module _ (s k i : ℕ) (h : i < s ^ k) where
  here : i < length (vectors s k)
  here = omega (arith, length-vectors s k)

  is_one-is : is_one s k (get_or (vectors s k) i []) ≡ true
  unfolding is_one
  is_one-is = all-at (is_one s k) [] (vectors s k) i (vectors-all s k (is_one s k) (λ v e b. and-join (eqb (length v) k) (all (λ d. ltb d s) v) (eqb-of-≡ (length v) k e) (AllBelow→all s v b))) here

  pub vector-length : length (get_or (vectors s k) i []) ≡ k
  unfolding is_one
  vector-length = eqb-true (length (get_or (vectors s k) i [])) k (and_left (eqb (length (get_or (vectors s k) i [])) k) (all (λ d. ltb d s) (get_or (vectors s k) i [])) is_one-is)

  pub vector-below : AllBelow s (get_or (vectors s k) i [])
  unfolding is_one
  vector-below = all→AllBelow s (get_or (vectors s k) i []) (and_right (eqb (length (get_or (vectors s k) i [])) k) (all (λ d. ltb d s) (get_or (vectors s k) i [])) is_one-is)

  pub vector-rank : rank s (get_or (vectors s k) i []) ≡ i
  vector-rank = sym (map_at (rank s) (vectors s k) i [] 0 here) ∙ ap (λ (l : List ℕ). get_or l i 0) (rank-vectors s k) ∙ get_d-up_from 0 (s ^ k) i h ∙ zero-add i

-- the vector of rank i comes next where i of them are dropped
pub drop-vectors : (s k i : ℕ) (v : List ℕ) → length v ≡ k → AllBelow s v → rank s v ≡ i → drop i (vectors s k) ≡ v ∷ drop (suc i) (vectors s k)
drop-vectors s k i v n b e =
    let h : i < s ^ k = rw (e, n) at (rank_lt s v b) in
    let q : get_or (vectors s k) i [] ≡ v = rank-inj s (get_or (vectors s k) i []) v (vector-length s k i h ∙ sym n) (vector-below s k i h) b (vector-rank s k i h ∙ sym e) in
    drop-cons (vectors s k) i [] (here s k i h) ∙ ap (λ (w : List ℕ). w ∷ drop (suc i) (vectors s k)) q
