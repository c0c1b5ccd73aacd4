use mathlib.Core.Path.{◌≡◌}
use lib.ListN.{length}
use Rattle.syntax.specs.Signatures.{signature_in}
use Rattle.cases.proofs.TablesRead.{TablesRead}
use Rattle.cases.proofs.reading.read_tables.Given as goal

-- `read_tables` meets its contract: the lines of the symbols before i are read.
abbrev pub invariant-loop-i : goal.invariant-loop-i
invariant-loop-i l =
    TablesRead l.size.0 (signature_in l.sheet l.signature) l.case l.at l.next l.base l.cells l.i × (length l.cells ≡ length l.initial.cells)
