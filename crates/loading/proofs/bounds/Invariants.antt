use Prim.Native.Nat.{◌+◌, ◌*◌}
use Rattle.loading.proofs.Bounding.{Bounding}
use Rattle.loading.proofs.bounds.Given as goal

-- `bounds` meets its contract. The invariant of its loop: the literals before this one have their blocks, the rest is as it was.
abbrev pub invariant-loop-literal : goal.invariant-loop-literal
invariant-loop-literal l =
    Bounding l.v (7 * l.v + l.m) l.initial.work l.work l.start l.literal
