use Prim.Native.Nat.{◌-◌}
use lib.ListN.{length}
use Rattle.statements.specs.Dues.{due_token_in}
use Rattle.argument_lists.specs.Lists.{KeepsSlices}
use Rattle.argument_lists.specs.Told.{ToldAt}
use Rattle.importing.proofs.NotingLoop.{Reached}
use Rattle.importing.proofs.noting.note_statement.Given as goal

-- `note_statement` notes one token after the other.
abbrev pub invariant-loop-taken : goal.invariant-loop-taken
invariant-loop-taken l =
    Reached l.text l.fn.before l.at l.i (due_token_in l.due) l.noted.table l.noted.letters × (ToldAt l.text l.i l.lists.counts.now l.told × KeepsSlices l.fn.lists l.lists)

abbrev pub decreases-loop-taken : goal.decreases-loop-taken
decreases-loop-taken l =
    length l.text - l.i
