use mathlib.Core.List.{List}
use Prim.Native.Nat.{ℕ, ◌-◌}
use Rattle.propagation.specs.WorkArea.{WorkHeld}
use Rattle.propagation.proofs.Turns.{Going}
use Rattle.propagation.proofs.propagate.Given as goal

-- `propagation::propagate` meets its contract. The invariant of its loop: whatever clauses the work area held, it holds them still, and what is new on the trail is forced.
abbrev pub invariant-loop-head : goal.invariant-loop-head
invariant-loop-head l =
    (cs : List (List ℕ)) → WorkHeld l.v cs l.fn.front.head l.fn.front.len l.initial.work → Going l.v cs l.fn.front.head l.fn.front.len l.initial.work l.head l.entries l.work

abbrev pub decreases-loop-head : goal.decreases-loop-head
decreases-loop-head l =
    l.v - l.head
