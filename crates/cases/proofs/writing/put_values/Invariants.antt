use Rattle.cases.proofs.Pairs.{Written}
use Rattle.cases.proofs.writing.put_values.Given as goal

-- `put_values` meets its contract: the values before i are written.
abbrev pub invariant-loop-i : goal.invariant-loop-i
invariant-loop-i l =
    Written l.initial.out l.at l.least l.table l.out l.e l.i
