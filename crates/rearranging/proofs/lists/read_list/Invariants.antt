use mathlib.Core.Path.{◌≡◌}
use lib.ListN.{length}
use Rattle.rearranging.proofs.Listing.{ListedTo}
use Rattle.rearranging.proofs.lists.read_list.Given as goal

-- `read_list` meets its contract: the bytes before this one are read.
abbrev pub invariant-loop-b : goal.invariant-loop-b
invariant-loop-b l =
    ListedTo l.list l.r l.b-index × (length l.list ≡ l.size.0)
