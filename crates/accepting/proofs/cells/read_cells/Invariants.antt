use Prim.Native.Nat.{ℕ}
use mathlib.Core.List.{List}
use Rattle.syntax.specs.Signatures.{signature_in}
use Rattle.accepting.proofs.CellsRead.{CellsTo}
use Rattle.accepting.proofs.cells.read_cells.Given as goal

-- `read_cells`: table after table into the cells behind those before it.
abbrev pub invariant-loop-i : goal.invariant-loop-i
invariant-loop-i l =
    (sheet : List ℕ) → CellsTo l.size.0 (signature_in sheet l.signature) l.setting l.initial.cells l.cells l.base l.i
