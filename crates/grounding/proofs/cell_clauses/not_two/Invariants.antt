use Prim.Native.Nat.{◌+◌}
use Rattle.theory.specs.Lists.{concat_map, up_to}
use Rattle.stream.specs.Consuming.{Consumed}
use Rattle.grounding.specs.CellPart.{not_with}
use Rattle.grounding.proofs.cell_clauses.not_two.Given as goal

-- `not_two` meets its contract: the clauses of the results before d are taken.
abbrev pub invariant-loop-d : goal.invariant-loop-d
invariant-loop-d g l =
    Consumed g.C.ClauseConsumer.effect (concat_map (not_with l.size.0 (1 + l.x.0)) (up_to l.d)) l.initial.consumer l.consumer
