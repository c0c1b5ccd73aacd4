use Prim.Native.Nat.{ℕ}
use mathlib.Core.List.{List}
use Rattle.theory.specs.Lists.{concat_map, up_to}
use Rattle.stream.specs.Consuming.{Consumed}
use Rattle.syntax.specs.Signatures.{signature_in}
use Rattle.grounding.proofs.CellWalk.{symbol_part}
use Rattle.grounding.proofs.cell_clauses.all_cells.Given as goal

-- `all_cells` meets its contract: the clauses of the symbols before i are taken.
abbrev pub invariant-loop-i : goal.invariant-loop-i
invariant-loop-i g l =
    ((sheet : List ℕ) → Consumed g.C.ClauseConsumer.effect (concat_map (symbol_part l.size.0 (signature_in sheet l.signature)) (up_to l.i)) l.initial.consumer l.consumer)
