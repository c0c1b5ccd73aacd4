use Prim.Native.Nat.{◌+◌, ◌-◌}
use mathlib.Core.Path.{◌≡◌}
use lib.ListN.{length}
use Rattle.replies.specs.Hearing.{values_in}
use Rattle.replies.proofs.WordsHeard.{HeardTo}
use Rattle.replies.proofs.words.hear_words.Given as goal

-- `hear_words`: word after word up to the line's end.
abbrev pub invariant-loop-reader : goal.invariant-loop-reader
invariant-loop-reader l =
    (l.reader.line.now ≡ l.value) × (HeardTo l.value (values_in l.initial.marks) l.stage l.marks l.reader.at × (length l.marks ≡ length l.initial.marks))

abbrev pub decreases-loop-reader : goal.decreases-loop-reader
decreases-loop-reader l =
    length l.value + 1 - l.reader.at
