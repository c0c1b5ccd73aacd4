-- What a caller shows at each end of loading: zeros are an area with no clause counted, and an area with all clauses entered and all first values told is loaded.
use mathlib.Core.Path.{◌≡◌, refl, ap, subst}
use mathlib.Core.Bool.{Bool, true}
use mathlib.Core.List.{List, [], ◌∷◌, map}
use Prim.Native.Nat.{ℕ, ◌+◌, ◌*◌}
use native.Mathlib.Omega.{arith}
use lib.ListN.{length, replicate, length-map}
use Rattle.theory.specs.Lists.{all, sum}
use Rattle.theory.specs.Propositional.{PropClause}
use Rattle.theory.specs.Claims.Counts.{is_numbered}
use Rattle.propagation.specs.Clauses.{code, codes, once, coded}
use Rattle.propagation.specs.WorkArea.{WorkHeld, Prefers, Loaded}
use Rattle.propagation.proofs.Truths.{zero-at}
use Rattle.loading.specs.Filling.{area_end}
use Rattle.loading.specs.Loading.{Tallied, Entered}
use Rattle.loading.proofs.Tallying.{tallied-none}
use Rattle.loading.proofs.Filled.{filled-held}

-- an area of zeros: no clause is counted
pub zeros-tallied : (v n : ℕ) → Tallied v [] (replicate n 0)
zeros-tallied v n = tallied-none v (replicate n 0) (zero-at n)

-- what clauses need of a work area, by how many clauses and literals they are
pub area_end-codes : (v : ℕ) (cs : List PropClause) → area_end v (map codes cs) ≡ 7 * v + length cs + sum (map length cs)
area_end-codes v cs = omega (arith, length-map cs codes, lengths cs)
  where
    lengths : (cs : List PropClause) → sum (map length (map codes cs)) ≡ sum (map length cs)
    lengths [] = refl
    lengths (c ∷ cs) = omega (arith, length-map c code, lengths cs)

-- All clauses are entered, and all first values told: the area is loaded.
pub entered-loaded : (v : ℕ) (cs : List PropClause) (first : ℕ → Bool) (w : List ℕ) → all (all (is_numbered v)) cs ≡ true
    → Entered v (map codes cs) (map codes cs) w → Prefers v v first w → Loaded v cs first w
entered-loaded v cs first w n f p =
    record {
      numbered = n;
      held = subst (λ (ds : List (List ℕ)). WorkHeld v ds 0 0 w) (once-codes cs) (filled-held v (map codes cs) (map once (map codes cs)) w f (length-map (map codes cs) once));
      prefers = p;
    }
  where
    once-codes : (cs : List PropClause) → map once (map codes cs) ≡ coded cs
    once-codes [] = refl
    once-codes (c ∷ cs) = ap (λ (ds : List (List ℕ)). once (codes c) ∷ ds) (once-codes cs)
