use Rattle.sheet_text.proofs.WordsBefore.{WordsMeasured}
use Rattle.sheet_text.proofs.clause_lines.clause_line_length.Given as goal

-- `clause_line_length` meets its contract: n is the length of the line with the words before i.
abbrev pub invariant-loop-i : goal.invariant-loop-i
invariant-loop-i l =
    WordsMeasured l.signature l.words l.i l.n
