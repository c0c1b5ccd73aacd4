-- The reader stands in the line, and what was read up to its place goes on to what the whole line gives. The measure: what is left of the line, and one for its end.
use Rattle.std.proofs.Common.{◌≡◌, ◌+◌, ◌-◌, length}
use Rattle.syntax.specs.Signatures.{signature_in}
use Rattle.clauses.proofs.Going.{Going}
use Rattle.clauses.proofs.clause.take_words.Given as goal

abbrev pub invariant-loop-reader : goal.invariant-loop-reader
invariant-loop-reader l = (l.reader.line.now ≡ l.value) × Going (signature_in l.sheet l.signature) l.value l.w l.reader.at

abbrev pub decreases-loop-reader : goal.decreases-loop-reader
decreases-loop-reader l = length l.value + 1 - l.reader.at
