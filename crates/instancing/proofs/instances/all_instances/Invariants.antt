use Rattle.instancing.proofs.Walking.{ClausesTaken}
use Rattle.instancing.proofs.instances.all_instances.Given as goal

-- `all_instances` meets its contract: the instances of the clauses before k are taken.
abbrev pub invariant-loop-k : goal.invariant-loop-k
invariant-loop-k g l =
    ClausesTaken g.C.ClauseConsumer.effect l.initial.consumer l.size.0 l.sheet l.p l.k l.consumer
