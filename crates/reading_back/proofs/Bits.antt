-- The bits of a symbol's cells: those of the setting, or of a part of a search's values.
use Prim.Native.Nat.{ℕ, zero, suc, ◌+◌, ◌*◌, ◌-◌, ◌≤◌}
use mathlib.Core.Path.{◌≡◌, refl, sym, ap, ◌∙◌}
use mathlib.Core.Bool.{cond}
use mathlib.Core.List.{List, [], ◌∷◌, ◌++◌, map-append}
use native.Mathlib.Nat.{suc-mul}
use native.Mathlib.Omega.{arith}
use lib.Dec.{eqb}
use lib.ListN.{length, take, drop, replicate, length-map, length-drop, take-append-drop}
use lib.Seq.{take-append-le, drop-append-le, length-take-le, take_at}
use Rattle.theory.specs.Syntax.{Kind, Signature}
use Rattle.theory.specs.Cells.{cell_count, cell_kinds}
use Rattle.theory.specs.Propositional.{width}
use Rattle.theory.specs.Valuation.{value_of, values_of, read_back, setting_of}
use Rattle.theory.proofs.Lists.{map-drop}
use Rattle.theory.proofs.Numbering.{length-cell_kinds}

pub length-setting_of : (values : List ℕ) → length (setting_of values) ≡ length values
length-setting_of values = length-map values (λ z. cond (eqb z 1) 1 0)

-- a value for each cell
length-values_of : (s : ℕ) (ks : List Kind) (σ : List ℕ) → length (values_of s ks σ) ≡ length ks
length-values_of s [] σ = refl
length-values_of s (k ∷ ks) σ = ap suc (length-values_of s ks (drop (width s k) σ))

pub length-read_back : (s : ℕ) (g : Signature) (σ : List ℕ) → length (read_back s g σ) ≡ cell_count s g
unfolding read_back
length-read_back s g σ = length-values_of s (cell_kinds s g) σ ∙ length-cell_kinds s g

-- a callee that was lent the first n of a list leaves as many,
pub part_length : (n : ℕ) (l : List ℕ) → n ≤ length l → length (take (n - 0) l) ≡ n
part_length n l h = length-take-le (n - 0) l (omega arith) ∙ omega arith

pub part-kept : (n : ℕ) (l vs : List ℕ) → n ≤ length l → length vs ≡ length (take (n - 0) l) → length vs ≡ n
part-kept n l vs h e = e ∙ part_length n l h

-- and they stand there again
pub front-again : (n : ℕ) (vs rest : List ℕ) → length vs ≡ n → take (n - 0) (vs ++ rest) ≡ vs
front-again n vs rest e = take_at vs rest (n - 0) (omega arith)

module _ (s : ℕ) (k : Kind) where
  -- cells have their values from their own bits, whatever stands behind
  values-of-own : (n : ℕ) (σ τ : List ℕ) → length σ ≡ n * width s k → values_of s (replicate n k) (σ ++ τ) ≡ values_of s (replicate n k) σ
  values-of-own zero σ τ e = refl
  values-of-own (suc n) σ τ e =
      let w : ℕ = width s k in
      let enough : w ≤ length σ = omega (arith, suc-mul n w) in
      let rest : length (drop w σ) ≡ n * w = omega (arith, suc-mul n w, length-drop w σ) in
      ap (λ (l : List ℕ). value_of k l ∷ values_of s (replicate n k) (drop w (σ ++ τ))) (take-append-le w σ τ enough)
      ∙ ap (λ (l : List ℕ). value_of k (take w σ) ∷ values_of s (replicate n k) l) (drop-append-le w σ τ enough)
      ∙ ap (λ (l : List ℕ). value_of k (take w σ) ∷ l) (values-of-own n (drop w σ) τ rest)

  -- so a search's values may be handed over in part
  pub values-of-part : (n from end : ℕ) (zs : List ℕ) → end ≡ from + n * width s k → end ≤ length zs
      → values_of s (replicate n k) (setting_of (take (end - from) (drop from zs))) ≡ values_of s (replicate n k) (drop from (setting_of zs))
  values-of-part n from end zs e h =
      let own : List ℕ = drop from zs in
      let m : ℕ = end - from in
      let sized : length (setting_of (take m own)) ≡ n * width s k = omega (arith, length-setting_of (take m own), length-take-le m own (omega (arith, length-drop from zs))) in
      sym (values-of-own n (setting_of (take m own)) (setting_of (drop m own)) sized)
      ∙ ap (values_of s (replicate n k)) (sym (map-append (λ z. cond (eqb z 1) 1 0) (take m own) (drop m own)) ∙ ap setting_of (take-append-drop m own) ∙ map-drop (λ z. cond (eqb z 1) 1 0) from zs)
