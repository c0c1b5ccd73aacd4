use Prim.Native.Nat.{◌+◌}
use mathlib.Core.Path.{◌≡◌}
use lib.ListN.{length, take}
use Rattle.text.specs.Put.{put}
use Rattle.uniting.specs.Runs.{StartsAt, run_lines}
use Rattle.uniting.specs.Joins.{new_text}
use Rattle.uniting.proofs.joins.put_new_lines.Given as goal

-- `put_new_lines` writes one line after the other: those before i are written.
abbrev pub invariant-loop-i : goal.invariant-loop-i
invariant-loop-i l =
    StartsAt l.second (l.fn.other.line + l._i) l.from × (length l.out ≡ length l.initial.out)
    × (l.out ≡ put l.initial.out l.at (new_text (run_lines l.first l.own) (take l._i (run_lines l.second l.fn.other)))) × (l.e ≡ l.at + length (new_text (run_lines l.first l.own) (take l._i (run_lines l.second l.fn.other))))
