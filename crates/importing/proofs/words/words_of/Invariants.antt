use Prim.Native.Nat.{◌-◌, ◌≤◌}
use lib.ListN.{length}
use Rattle.statements.specs.Dues.{due_token_in}
use Rattle.importing.proofs.CodingLoop.{Reached}
use Rattle.importing.proofs.words.words_of.Given as goal

-- `words_of` takes one token after the other.
abbrev pub invariant-loop-taken : goal.invariant-loop-taken
invariant-loop-taken l =
    Reached l.text l.signature l.at l.i (due_token_in l.due) l.c × (l.c.words.count ≤ 64)

abbrev pub decreases-loop-taken : goal.decreases-loop-taken
decreases-loop-taken l =
    length l.text - l.i
