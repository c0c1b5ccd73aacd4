use Prim.Native.Nat.{◌+◌, ◌*◌}
use Rattle.theory.specs.Lists.{concat_map, up_to}
use Rattle.stream.specs.Consuming.{Consumed}
use Rattle.theory.specs.PropClauses.{cell_clauses}
use Rattle.grounding.proofs.cell_clauses.table_cells.Given as goal

-- `table_cells` meets its contract: the clauses of the first r cells are taken.
abbrev pub invariant-loop-r : goal.invariant-loop-r
invariant-loop-r g l =
    Consumed g.C.ClauseConsumer.effect (concat_map (λ r'. cell_clauses l.size.0 (1 + (l.base.0 + r' * l.size.0))) (up_to l.r)) l.initial.consumer l.consumer
