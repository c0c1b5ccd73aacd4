use Rattle.propagation.proofs.Addresses.{Changing}
use Rattle.propagation.proofs.weights.change.Given as goal

-- `weights::change` meets its contract. The invariant of its loop: what is left to change, changed, is what the contract says.
abbrev pub invariant-loop-place : goal.invariant-loop-place
invariant-loop-place g l =
    Changing (goal.F-pre g l.f) (goal.F-post g l.f) l.from l.to l.initial.work l.work l.place
