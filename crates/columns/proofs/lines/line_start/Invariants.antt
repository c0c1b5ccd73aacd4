use Rattle.columns.proofs.LineWalk.{Gone}
use Rattle.columns.proofs.lines.line_start.Given as goal

-- `line_start` passes one line after the other: what is left after i lines gives what all give.
abbrev pub invariant-loop-i : goal.invariant-loop-i
invariant-loop-i l =
    Gone l.text l.n l.at l._i
