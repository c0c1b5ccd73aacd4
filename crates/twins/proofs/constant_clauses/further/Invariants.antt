use mathlib.Core.List.{[], ◌∷◌}
use Rattle.theory.specs.Lists.{concat_map, up_to}
use Rattle.stream.specs.Consuming.{Consumed}
use Rattle.twins.specs.Constants.{held_bases}
use Rattle.twins.specs.TwinPart.{after_clause}
use Rattle.twins.proofs.constant_clauses.further.Given as goal

-- `further` meets its contract: the clauses of the results up to d are taken.
abbrev pub invariant-loop-d : goal.invariant-loop-d
invariant-loop-d g l =
    Consumed g.C.ClauseConsumer.effect (concat_map (λ d'. after_clause (held_bases l.constants) l.i d' ∷ []) (up_to l.d)) l.initial.consumer l.consumer
