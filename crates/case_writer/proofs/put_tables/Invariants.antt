use Rattle.case_writer.proofs.Lines.{Written}
use Rattle.case_writer.proofs.put_tables.Given as goal

-- `put_tables` meets its contract: the lines of the symbols before i are written.
abbrev pub invariant-loop-i : goal.invariant-loop-i
invariant-loop-i l =
    Written l.sheet l.signature l.size.0 l.cells l.initial.out l.at l.out l.e l.base l.i
