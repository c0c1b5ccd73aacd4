use Prim.Native.Nat.{◌-◌}
use mathlib.Core.Path.{◌≡◌}
use lib.ListN.{length}
use Rattle.replies.specs.Hearing.{values_in}
use Rattle.replies.proofs.LinesHeard.{LinesTo}
use Rattle.replies.proofs.lines.hear_lines.Given as goal

-- `hear_lines`: line after line up to the text's end.
abbrev pub invariant-loop-at : goal.invariant-loop-at
invariant-loop-at l =
    LinesTo l.text (values_in l.initial.marks) l.stage l.marks l.at × (length l.marks ≡ length l.initial.marks)

abbrev pub decreases-loop-at : goal.decreases-loop-at
decreases-loop-at l =
    length l.text - l.at
