use Prim.Native.Nat.{ℕ}
use mathlib.Core.Path.{◌≡◌}
use Rattle.theory.specs.Cells.{value_count}
use Rattle.theory.specs.CaseText.{least_byte}
use Rattle.syntax.specs.Signatures.{kind_of}
use Rattle.cases.proofs.ValuesAfter.{Stored}
use Rattle.cases.proofs.reading.read_values.Given as goal

-- `read_values` meets its contract: the values before i are in the cells.
abbrev pub invariant-loop-i : goal.invariant-loop-i
invariant-loop-i l =
    ((s : ℕ) → l.most ≡ value_count s (kind_of l.function) → Stored s (kind_of l.function) l.count l.bytes l.from l.initial.cells l.cells l.i)
    × (l.least ≡ least_byte (kind_of l.function))
