use Prim.Native.Nat.{◌-◌}
use lib.ListN.{length}
use Rattle.statements.proofs.Steps.{Going}
use Rattle.statements.specs.Dues.{due_token_in}
use Rattle.statements.proofs.follow.follow_rest.Given as goal

-- `follow_rest` goes on token by token.
abbrev pub invariant-loop-place : goal.invariant-loop-place
invariant-loop-place l =
    Going l.text l.at l.i (due_token_in l.due)

abbrev pub decreases-loop-place : goal.decreases-loop-place
decreases-loop-place l =
    length l.text - l.i
