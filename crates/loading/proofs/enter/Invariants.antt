use Rattle.loading.proofs.ClauseEntering.{EntersBut}
use Rattle.loading.proofs.enter.Given as goal

-- `enter` meets its contract. The invariant of its loop: all literals but those that are still to come are in.
abbrev pub invariant-loop-literal : goal.invariant-loop-literal
invariant-loop-literal l =
    EntersBut l.v l.clause l.number l.initial.work l.work l.literal-iterator.iter.rest.now
