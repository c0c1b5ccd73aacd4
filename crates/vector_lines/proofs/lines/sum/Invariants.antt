-- the sum of `sum` never wraps.
use Rattle.std.proofs.Common.{◌<◌}
use Rattle.vector_lines.proofs.lines.sum.Given as goal

abbrev pub invariant-loop-b : goal.invariant-loop-b
invariant-loop-b l = l.s < 1000003
