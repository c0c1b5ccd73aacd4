use Prim.Native.Nat.{◌+◌, ◌*◌, ◌-◌, ◌≤◌}
use mathlib.Core.Path.{◌≡◌}
use mathlib.Core.Option.{some}
use lib.ListN.{length}
use Rattle.theory.specs.Grammar.{terms}
use Rattle.syntax.specs.Signatures.{signature_in}
use Rattle.clauses.specs.Grammar.{due_in, pending}
use Rattle.columns.specs.Words.{due_after_word, is_stuck}
use Rattle.columns.proofs.WordWalk.{Passing}
use Rattle.columns.proofs.words.first_misplaced.Given as goal

-- `first_misplaced` keeps what is due after the words passed.
abbrev pub invariant-loop-reader : goal.invariant-loop-reader
invariant-loop-reader l =
    (l.reader.line.now ≡ l.value) × (Passing (due_after_word (signature_in l.sheet l.signature)) is_stuck (some (terms 0)) l.value (due_in l.due) l.reader.at × (2 * pending l.due ≤ 3 * l.reader.at))

abbrev pub decreases-loop-reader : goal.decreases-loop-reader
decreases-loop-reader l =
    length l.value + 1 - l.reader.at
