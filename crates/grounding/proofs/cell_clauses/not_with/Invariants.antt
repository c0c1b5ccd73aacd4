use Prim.Native.Nat.{suc, ◌+◌, ◌-◌}
use mathlib.Core.List.{[], ◌∷◌}
use Rattle.theory.specs.Lists.{concat_map, up_from}
use Rattle.theory.specs.PropClauses.{not_both}
use Rattle.stream.specs.Consuming.{Consumed}
use Rattle.grounding.proofs.cell_clauses.not_with.Given as goal

-- `not_with` meets its contract: the clauses for the results before e are taken.
abbrev pub invariant-loop-e : goal.invariant-loop-e
invariant-loop-e g l =
    Consumed g.C.ClauseConsumer.effect (concat_map (λ e'. not_both (1 + l.x.0) l.d.0 e' ∷ []) (up_from (suc l.d.0) (l.e - suc l.d.0))) l.initial.consumer l.consumer
