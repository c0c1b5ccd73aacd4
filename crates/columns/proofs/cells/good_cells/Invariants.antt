use Prim.Native.Nat.{ℕ, ◌*◌, ◌≤◌}
use mathlib.Core.Path.{◌≡◌}
use lib.ListN.{length}
use Rattle.theory.specs.Cells.{value_count}
use Rattle.theory.specs.CaseText.{least_byte}
use Rattle.syntax.specs.Signatures.{kind_of}
use Rattle.columns.proofs.CellBytes.{CellsGone}
use Rattle.columns.proofs.cells.good_cells.Given as goal

-- `good_cells` passes one value after the other.
abbrev pub invariant-loop-i : goal.invariant-loop-i
invariant-loop-i l =
    ((s : ℕ) → l.most ≡ value_count s (kind_of l.function) → CellsGone s (kind_of l.function) l.count l.bytes l.i) × ((2 * l.i ≤ length l.bytes) × (l.least ≡ least_byte (kind_of l.function)))
