use Rattle.counts.specs.Totals.{ConstantsTotal}
use Rattle.counts.proofs.all_constant_counts.Given as goal

-- `all_constant_counts` meets its contract: the first i constants are counted.
abbrev pub invariant-loop-i : goal.invariant-loop-i
invariant-loop-i l =
    ConstantsTotal l.size.0 l.i l.total
