use Rattle.cases.proofs.Lengths.{Measured}
use Rattle.cases.proofs.writing.case_length.Given as goal

-- `case_length` meets its contract: n is the length with the symbols before i.
abbrev pub invariant-loop-i : goal.invariant-loop-i
invariant-loop-i l =
    Measured l.size.0 l.signature l.i l.n
