use Prim.Native.Nat.{◌+◌, ◌≤◌}
use lib.ListN.{take}
use Rattle.theory.specs.Lists.{same}
use Rattle.sheet_merging.specs.Merging.{new_to}
use Rattle.uniting.specs.Runs.{StartsAt, run_lines}
use Rattle.uniting.specs.Joins.{Measured}
use Rattle.uniting.proofs.joins.new_lines.Given as goal

-- `new_lines` counts one line after the other: those before i are measured.
abbrev pub invariant-loop-i : goal.invariant-loop-i
invariant-loop-i l =
    StartsAt l.second (l.fn.other.line + l._i) l.at × Measured (new_to same (run_lines l.first l.own) (take l._i (run_lines l.second l.fn.other))) l.lines × (l.lines.count ≤ l._i) × (l.lines.bytes ≤ l.at)
