use Prim.Native.Nat.{◌-◌}
use lib.ListN.{length}
use Rattle.scanning.proofs.Lookahead.{Counting}
use Rattle.scanning.proofs.ahead.commas_ahead.Given as goal

-- `commas_ahead` looks at one token after the other, counts the lists open before it and the commas outside them.
abbrev pub invariant-loop-token : goal.invariant-loop-token
invariant-loop-token l =
    Counting l.text l.at l.i l.lists l.count

abbrev pub decreases-loop-token : goal.decreases-loop-token
decreases-loop-token l =
    length l.text - l.i
