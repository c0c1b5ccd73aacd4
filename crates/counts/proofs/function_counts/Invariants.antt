use Prim.Native.Nat.{ℕ, ◌*◌, ◌^◌}
use mathlib.Core.List.{List}
use Rattle.syntax.specs.Signatures.{signature_in}
use Rattle.counts.specs.Totals.{TotalOf}
use Rattle.counts.proofs.Adding.{functions_before}
use Rattle.counts.proofs.function_counts.Given as goal

-- `function_counts` meets its contract: the functions before i are counted.
abbrev pub invariant-loop-i : goal.invariant-loop-i
invariant-loop-i l =
    ((sheet : List ℕ) → TotalOf (functions_before l.size.0 (signature_in sheet l.signature) l.i) (l.i * 2 ^ 15) l.total)
