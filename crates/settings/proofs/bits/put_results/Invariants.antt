use Prim.Native.Nat.{◌+◌, ◌*◌}
use mathlib.Core.Path.{◌≡◌}
use lib.ListN.{replicate}
use Rattle.theory.specs.Syntax as theory
use Rattle.theory.specs.Valuation.{bits_of_cells}
use Rattle.text.specs.Put.{put}
use Rattle.settings.proofs.bits.put_results.Given as goal

-- `put_results` meets its contract: the bytes of the cells before r are put.
abbrev pub invariant-loop-value : goal.invariant-loop-value
invariant-loop-value l =
    (l.at ≡ l.initial.at + l.value-index * l.size.0) × (l.out ≡ put l.initial.out l.initial.at (bits_of_cells l.size.0 (replicate l.value-index theory.function) l.table))
