use Prim.Native.Nat.{◌+◌, ◌-◌}
use mathlib.Core.Path.{◌≡◌}
use mathlib.Core.Bool.{true, not}
use lib.ListN.{length}
use Rattle.syntax.specs.Signatures.{signature_in}
use Rattle.columns.specs.Words.{known_after}
use Rattle.columns.proofs.WordWalk.{Passing}
use Rattle.columns.proofs.words.first_unknown.Given as goal

-- `first_unknown` passes the words that are known.
abbrev pub invariant-loop-reader : goal.invariant-loop-reader
invariant-loop-reader l =
    (l.reader.line.now ≡ l.value) × Passing (known_after (signature_in l.sheet l.signature)) not true l.value true l.reader.at

abbrev pub decreases-loop-reader : goal.decreases-loop-reader
decreases-loop-reader l =
    length l.value + 1 - l.reader.at
