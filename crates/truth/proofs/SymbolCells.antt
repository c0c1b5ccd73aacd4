-- The cell of a symbol at the values of its terms, as it is counted from the symbol's first cell.
use Prim.Native.Nat.{ℕ, ◌+◌, ◌*◌, ◌≤◌, ◌<◌}
use mathlib.Core.Path.{◌≡◌, ap, ◌∙◌}
use mathlib.Core.List.{List}
use native.Mathlib.Omega.{arith}
use lib.ListN.{length, get_or}
use Rattle.theory.specs.Vectors.{rank, AllBelow}
use Rattle.theory.specs.Syntax.{function, predicate, Signature, symbol_at}
use Rattle.theory.specs.Cells.{value_count, cell, cell_kinds, cell_count}
use Rattle.theory.proofs.Numbering.{cell_below, kind-at-cell}
use Rattle.theory.proofs.Interpretations.{length-interpretation, value-below}
use Rattle.syntax.specs.Codes.{max_places}
use Rattle.interpretation.proofs.Tabling.{base-within}
use Rattle.truth.specs.Steps.{Interprets}

module _ {g : Signature} {bases cells : List ℕ} {s : ℕ} (h : Interprets g bases cells s) (f : ℕ) (declared : f < length g) where
  pub base-small : get_or bases f 0 ≤ 512 * max_places
  base-small = omega (arith, h.base f declared, base-within g s f h.size h.small (omega (arith, declared)), declared, h.small.symbols)

  module _ (v : List ℕ) (counted : length v ≡ (symbol_at g f).arity) (below : AllBelow s v) (c : ℕ) (e : c ≡ get_or bases f 0 + rank s v) where
    pub cell-is : c ≡ cell s g f v
    cell-is = e ∙ ap (λ (b : ℕ). b + rank s v) (h.base f declared)

    cell-counted : c < cell_count s g
    cell-counted = rw cell-is (cell_below s g f v declared counted below)

    pub cell-within : c < length cells
    cell-within = omega (arith, cell-counted, length-interpretation s g cells h.values)

    -- a function's value is an element
    pub element-at : (symbol_at g f).kind ≡ function → get_or cells c 0 < s
    element-at k =
        let q : get_or (cell_kinds s g) c predicate ≡ function = ap (λ (c : ℕ). get_or (cell_kinds s g) c predicate) cell-is ∙ kind-at-cell s g f v declared counted below ∙ k in
        rw (ap (value_count s) q) at (value-below s g cells h.values c cell-counted)
