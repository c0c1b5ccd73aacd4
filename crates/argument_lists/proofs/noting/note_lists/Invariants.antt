use Prim.Native.Nat.{◌-◌}
use lib.ListN.{length}
use Rattle.argument_lists.specs.Lists.{KeepsSlices}
use Rattle.argument_lists.proofs.NotedLists.{ListsNoted}
use Rattle.argument_lists.proofs.noting.note_lists.Given as goal

abbrev pub invariant-loop-token : goal.invariant-loop-token
invariant-loop-token l =
    ListsNoted l.text l.at l.i l.lists.counts.now l.lists.links.now l.p × KeepsSlices l.fn.lists l.lists

abbrev pub decreases-loop-token : goal.decreases-loop-token
decreases-loop-token l =
    length l.text - l.i
