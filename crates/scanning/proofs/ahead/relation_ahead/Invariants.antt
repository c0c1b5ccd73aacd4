use Prim.Native.Nat.{◌-◌}
use lib.ListN.{length}
use Rattle.scanning.proofs.Lookahead.{Relating}
use Rattle.scanning.proofs.ahead.relation_ahead.Given as goal

-- `relation_ahead` looks at one token after the other, and counts the lists open before it.
abbrev pub invariant-loop-token : goal.invariant-loop-token
invariant-loop-token l =
    Relating l.text l.at l.i l.lists

abbrev pub decreases-loop-token : goal.decreases-loop-token
decreases-loop-token l =
    length l.text - l.i
