-- Line and column, byte by byte.
use Prim.Native.Nat.{ℕ, ◌+◌, ◌-◌, ◌≤◌}
use mathlib.Core.Path.{◌≡◌, refl, sym, ap, ◌∙◌}
use mathlib.Core.List.{List, [], ◌∷◌}
use native.Mathlib.Omega.{arith}
use lib.ListN.{drop}
use Rattle.tptp.specs.Places.{place_from, place_of}

-- line l and column c are those of place i on the way to place n
pub record Placed (text : List ℕ) (n i l c : ℕ) : Type 0 where
  pub before : i ≤ n
  pub lines : l ≤ i + 1
  pub columns : c ≤ i + 1
  pub same : place_of text n ≡ place_from (drop i text) (n - i) l c

pub placed-start : (text : List ℕ) (n : ℕ) → Placed text n 0 1 1
unfolding place_of
placed-start text n = record { before = omega arith; lines = omega arith; columns = omega arith; same = ap (λ (m : ℕ). place_from text m 1 1) e }
  where
    e : n ≡ n - 0
    e = omega arith

pub placed_end : (text : List ℕ) (n i l c : ℕ) → n ≤ i → Placed text n i l c → record { line = l; column = c } ≡ place_of text n
placed_end text n i l c h p =
    let z : n - i ≡ 0 = omega arith in
    sym (p.same ∙ ap (λ (m : ℕ). place_from (drop i text) m l c) z ∙ none (drop i text))
  where
    none : (bs : List ℕ) → place_from bs 0 l c ≡ record { line = l; column = c }
    none [] = refl
    none (b ∷ bs) = refl
