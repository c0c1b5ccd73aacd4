use Rattle.theory.specs.Lists.{concat_map, up_to}
use Rattle.stream.specs.Consuming.{Consumed}
use Rattle.twins.specs.Constants.{held_bases}
use Rattle.twins.specs.TwinPart.{twin_clauses}
use Rattle.twins.proofs.constant_clauses.each_constant.Given as goal

-- `each_constant` meets its contract: the clauses of the constants before i are taken.
abbrev pub invariant-loop-i : goal.invariant-loop-i
invariant-loop-i g l =
    Consumed g.C.ClauseConsumer.effect (concat_map (twin_clauses l.size.0 (held_bases l.constants)) (up_to l.i)) l.initial.consumer l.consumer
