use Prim.Native.Nat.{◌+◌, ◌-◌, ◌≤◌}
use mathlib.Core.Path.{◌≡◌}
use lib.ListN.{length}
use Rattle.columns.specs.Words.{with_word, are_over}
use Rattle.columns.proofs.WordWalk.{Passing}
use Rattle.columns.proofs.words.first_over.Given as goal

-- `first_over` counts words and signs.
abbrev pub invariant-loop-reader : goal.invariant-loop-reader
invariant-loop-reader l =
    (l.reader.line.now ≡ l.value) × (Passing with_word are_over (0, 0) l.value (l.words, l.literals) l.reader.at × ((l.words ≤ 64) × (l.literals ≤ 16)))

abbrev pub decreases-loop-reader : goal.decreases-loop-reader
decreases-loop-reader l =
    length l.value + 1 - l.reader.at
