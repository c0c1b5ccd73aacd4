use Rattle.instancing.specs.Choices.{ChoiceAt}
use Rattle.instancing.specs.ClauseForms.{FormsOf}
use Rattle.instancing.proofs.Walking.{ChoicesTaken}
use Rattle.instancing.proofs.instances.clause_instances.Given as goal

-- `clause_instances` meets its contract: the instances under the choices before i are taken.
abbrev pub invariant-loop-i : goal.invariant-loop-i
invariant-loop-i g l =
    ChoiceAt l.fn.size.0 l.fn.variables l.values l._i × ((o : FormsOf l.fn.size.0 l.fn.variables l.count l.forms) → ChoicesTaken g.C.ClauseConsumer.effect l.initial.consumer o l._i l.consumer)
