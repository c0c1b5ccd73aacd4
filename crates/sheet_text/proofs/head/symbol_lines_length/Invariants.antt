use Rattle.sheet_text.proofs.SymbolLines.{LinesMeasured}
use Rattle.sheet_text.proofs.head.symbol_lines_length.Given as goal

-- `symbol_lines_length` meets its contract: n is the length of the lines of the symbols before i.
abbrev pub invariant-loop-i : goal.invariant-loop-i
invariant-loop-i l =
    LinesMeasured l.k.key.now l.signature l.k.from l.i l.n
