-- Laws of the bytes of cells: cells behind others, one cell more.
use Prim.Native.Nat.{ℕ, zero, suc, ◌*◌, ◌≤◌, ◌<◌}
use mathlib.Core.Path.{◌≡◌, refl, sym, ap, ◌∙◌}
use mathlib.Core.List.{List, [], ◌∷◌, ◌++◌, map, append_assoc, append-nil}
use native.Mathlib.Nat.{zero-mul, suc-mul}
use native.Mathlib.Omega.{arith}
use lib.ListN.{length, get_or, take, drop, replicate, length-append}
use Rattle.theory.specs.Lists.{sum}
use Rattle.theory.specs.Syntax.{Kind, predicate}
use Rattle.theory.specs.Propositional.{width}
use Rattle.theory.specs.Valuation.{bits_of, bits_of_cells}
use Rattle.theory.proofs.Valuations.{length-bits_of}

module _ (s : ℕ) where
  no-values : (ks : List Kind) → bits_of_cells s ks [] ≡ []
  no-values [] = refl
  no-values (k ∷ ks) = refl

  pub bits-behind : (ks js : List Kind) (vs : List ℕ) → bits_of_cells s (ks ++ js) vs ≡ bits_of_cells s ks vs ++ bits_of_cells s js (drop (length ks) vs)
  bits-behind [] js vs = refl
  bits-behind (k ∷ ks) js [] = sym (no-values js)
  bits-behind (k ∷ ks) js (d ∷ ds) =
      ap (λ (l : List ℕ). bits_of s k d ++ l) (bits-behind ks js ds) ∙ sym (append_assoc (bits_of s k d) (bits_of_cells s ks ds) (bits_of_cells s js (drop (length ks) ds)))

  -- values past those of the cells do not count
  pub bits-of-first : (ks : List Kind) (vs : List ℕ) → bits_of_cells s ks (take (length ks) vs) ≡ bits_of_cells s ks vs
  bits-of-first [] vs = refl
  bits-of-first (k ∷ ks) [] = refl
  bits-of-first (k ∷ ks) (d ∷ ds) = ap (λ (l : List ℕ). bits_of s k d ++ l) (bits-of-first ks ds)

  pub length-bits : (ks : List Kind) (vs : List ℕ) → length ks ≤ length vs → length (bits_of_cells s ks vs) ≡ sum (map (width s) ks)
  length-bits [] vs h = refl
  length-bits (k ∷ ks) [] h = absurd (omega arith)
  length-bits (k ∷ ks) (d ∷ ds) h = length-append (bits_of s k d) (bits_of_cells s ks ds) ∙ omega (arith, length-bits_of s k d, length-bits ks ds (omega arith))

  -- cells of one kind
  pub length-cells : (k : Kind) (n : ℕ) (vs : List ℕ) → n ≤ length vs → length (bits_of_cells s (replicate n k) vs) ≡ n * width s k
  length-cells k zero vs h = sym (zero-mul (width s k))
  length-cells k (suc n) [] h = absurd (omega arith)
  length-cells k (suc n) (d ∷ ds) h =
      length-append (bits_of s k d) (bits_of_cells s (replicate n k) ds) ∙ omega (arith, length-bits_of s k d, length-cells k n ds (omega arith), suc-mul n (width s k))

  -- one more of them
  pub cell-more : (k : Kind) (n : ℕ) (vs : List ℕ) → n < length vs → bits_of_cells s (replicate (suc n) k) vs ≡ bits_of_cells s (replicate n k) vs ++ bits_of s k (get_or vs n 0)
  cell-more k n [] h = absurd (omega arith)
  cell-more k zero (d ∷ ds) h = append-nil (bits_of s k d)
  cell-more k (suc n) (d ∷ ds) h =
      ap (λ (l : List ℕ). bits_of s k d ++ l) (cell-more k n ds (omega arith)) ∙ sym (append_assoc (bits_of s k d) (bits_of_cells s (replicate n k) ds) (bits_of s k (get_or ds n 0)))

  -- a predicate's cells are their bytes
  pub truth-bytes : (vs : List ℕ) → bits_of_cells s (replicate (length vs) predicate) vs ≡ vs
  truth-bytes [] = refl
  truth-bytes (d ∷ ds) = ap (λ (l : List ℕ). d ∷ l) (truth-bytes ds)
