use Prim.Native.Nat.{ℕ}
use mathlib.Core.List.{List}
use Rattle.settings.proofs.Blocks.{BlocksPut}
use Rattle.settings.proofs.bits.put_valuation.Given as goal

-- `put_valuation` meets its contract: the bytes of the symbols before i are put.
abbrev pub invariant-loop-i : goal.invariant-loop-i
invariant-loop-i l =
    (sheet : List ℕ) → BlocksPut sheet l.signature l.size.0 l.cells l.initial.out l.out l.base l.i
