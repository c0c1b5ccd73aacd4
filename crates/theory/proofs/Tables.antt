-- An interpretation is a table for each symbol, one after the other: as many values as the symbol has cells, each in range.
use Prim.Native.Nat.{ℕ, zero, suc}
use mathlib.Core.Path.{◌≡◌, refl, ap}
use mathlib.Core.Bool.{Bool, true, false≢true}
use mathlib.Core.List.{List, [], ◌∷◌, ◌++◌}
use native.Mathlib.Nat.{suc_inj}
use native.Mathlib.Omega.{arith}
use lib.Dec.{ltb}
use lib.ListN.{length, take, drop, replicate}
use Rattle.theory.specs.Lists.{all}
use Rattle.theory.specs.Syntax.{Kind, Symbol, Signature}
use Rattle.theory.specs.Cells.{table_size, cell_kinds, value_count, in_range, is_interpretation}
use Rattle.theory.proofs.Tests.{and_left, and_right, and-join}

module _ (s : ℕ) where
  -- the values of one symbol: n of them, each in range
  pub record Table (k : Kind) (n : ℕ) (us : List ℕ) : Type 0 where
    pub counted : length us ≡ n
    pub below : all (λ d. ltb d (value_count s k)) us ≡ true

  pub in_range-split : (n : ℕ) (k : Kind) (ks : List Kind) (vs : List ℕ) → in_range s (replicate n k ++ ks) vs ≡ true → Table k n (take n vs) × (in_range s ks (drop n vs) ≡ true)
  in_range-split zero k ks vs h = (record { counted = refl; below = refl }, h)
  in_range-split (suc n) k ks [] h = absurd (false≢true h)
  in_range-split (suc n) k ks (d ∷ ds) h =
      let r = in_range-split n k ks ds (and_right (ltb d (value_count s k)) (in_range s (replicate n k ++ ks) ds) h) in (
        record {
          counted = ap suc r.0.counted;
          below =
              and-join (ltb d (value_count s k)) (all (λ d. ltb d (value_count s k)) (take n ds)) (and_left (ltb d (value_count s k)) (in_range s (replicate n k ++ ks) ds) h)
              r.0.below;
        },
        r.1,
      )

  pub in_range-join : (n : ℕ) (k : Kind) (ks : List Kind) (us vs : List ℕ) → Table k n us → in_range s ks vs ≡ true → in_range s (replicate n k ++ ks) (us ++ vs) ≡ true
  in_range-join zero k ks [] vs t h = h
  in_range-join zero k ks (u ∷ us) vs t h = absurd (omega (arith, t.counted))
  in_range-join (suc n) k ks [] vs t h = absurd (omega (arith, t.counted))
  in_range-join (suc n) k ks (u ∷ us) vs t h =
      let b : Bool = all (λ d. ltb d (value_count s k)) us in
      and-join (ltb u (value_count s k)) (in_range s (replicate n k ++ ks) (us ++ vs)) (and_left (ltb u (value_count s k)) b t.below)
      (in_range-join n k ks us vs (record { counted = suc_inj t.counted; below = and_right (ltb u (value_count s k)) b t.below }) h)

  -- the first symbol's table, and the rest
  pub interpretation-split : (f : Symbol) (g : Signature) (vs : List ℕ) → is_interpretation s (f ∷ g) vs ≡ true
      → Table f.kind (table_size s f) (take (table_size s f) vs) × (is_interpretation s g (drop (table_size s f) vs) ≡ true)
  unfolding is_interpretation cell_kinds
  interpretation-split f g vs h = in_range-split (table_size s f) f.kind (cell_kinds s g) vs h

  pub interpretation-join : (f : Symbol) (g : Signature) (us vs : List ℕ) → Table f.kind (table_size s f) us → is_interpretation s g vs ≡ true → is_interpretation s (f ∷ g) (us ++ vs) ≡ true
  unfolding is_interpretation cell_kinds
  interpretation-join f g us vs t h = in_range-join (table_size s f) f.kind (cell_kinds s g) us vs t h

  pub interpretation-empty : (vs : List ℕ) → is_interpretation s [] vs ≡ true → vs ≡ []
  unfolding is_interpretation cell_kinds
  interpretation-empty [] h = refl
  interpretation-empty (d ∷ vs) h = absurd (false≢true h)

  pub empty-interpretation : is_interpretation s [] [] ≡ true
  unfolding is_interpretation cell_kinds
  empty-interpretation = refl
