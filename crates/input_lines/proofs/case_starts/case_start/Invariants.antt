use Rattle.input_lines.proofs.CaseStarts.{Unstarted}
use Rattle.input_lines.proofs.case_starts.case_start.Given as goal

-- `case_start` meets its contract: the first place where a case's first line stands, byte by byte.
abbrev pub invariant-loop-i : goal.invariant-loop-i
invariant-loop-i l =
    Unstarted l.input l.i l.fresh
