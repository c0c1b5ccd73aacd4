use Rattle.loading.proofs.Tallying.{Tallying}
use Rattle.loading.proofs.tally.Given as goal

-- `tally` meets its contract. The invariant of its loop: the first literals of the clause are counted.
abbrev pub invariant-loop-literal : goal.invariant-loop-literal
invariant-loop-literal l =
    Tallying l.v l.clause l.initial.work l.work l.literal-index
