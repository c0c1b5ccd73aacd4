use Prim.Native.Nat.{◌+◌}
use mathlib.Core.Path.{◌≡◌}
use lib.ListN.{drop}
use Rattle.theory.specs.Lists as lists
use Rattle.uniting.specs.Runs.{StartsAt, run_lines}
use Rattle.uniting.proofs.runs.has_line.Given as goal

-- `has_line` compares one line after the other: what is left of the run says what all of it says.
abbrev pub invariant-loop-i : goal.invariant-loop-i
invariant-loop-i l =
    StartsAt l.text (l.fn.run.line + l._i) l.at × (lists.any (lists.same l.line) (run_lines l.text l.fn.run) ≡ lists.any (lists.same l.line) (drop l._i (run_lines l.text l.fn.run)))
