use mathlib.Core.List.{List}
use Prim.Native.Nat.{ℕ}
use Rattle.propagation.specs.WorkArea.{WorkHeld}
use Rattle.search.proofs.Returning.{Level, Backing}
use Rattle.search.proofs.backtrack.Given as goal

-- `backtrack` meets its contract. The invariant of its loop: the entries from the place on are off the trail, and none of them was an open choice.
abbrev pub invariant-loop-place : goal.invariant-loop-place
invariant-loop-place l =
    ((cs : List (List ℕ)) → WorkHeld l.v cs l.fn.front.head l.fn.front.len l.initial.work
    → Backing l.v cs l.fn.front.head l.fn.front.len l.initial.work l.level l.place l.work)
    × Level l.fn.front.head l.level l.place
