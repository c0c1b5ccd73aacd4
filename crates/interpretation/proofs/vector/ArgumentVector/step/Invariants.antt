use Rattle.interpretation.proofs.Steps.{Passed}
use Rattle.interpretation.proofs.vector.ArgumentVector.step.Given as goal

-- `ArgumentVector::step` meets its contract.
abbrev pub invariant-loop-i : goal.invariant-loop-i
invariant-loop-i l =
    Passed l.initial.self l.self l.i
