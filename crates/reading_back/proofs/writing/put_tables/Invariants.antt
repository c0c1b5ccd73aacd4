use Rattle.reading_back.specs.Bits.{bits_held}
use Rattle.reading_back.proofs.Written.{Written}
use Rattle.reading_back.proofs.writing.put_tables.Given as goal

-- `put_tables` meets its contract: the lines of the symbols before i are written.
abbrev pub invariant-loop-i : goal.invariant-loop-i
invariant-loop-i l =
    Written l.sheet l.signature l.size.0 (bits_held l.bits) l.initial.out l.at l.out l.e l.i
