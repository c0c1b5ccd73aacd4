use Prim.Native.Nat.{◌-◌}
use Rattle.syntax.specs.Signatures.{kind_of}
use Rattle.rearranging.specs.Entries.{rearrangement_in}
use Rattle.rearranging.proofs.Parts.{PartsTaken}
use Rattle.rearranging.proofs.candidates.+take_part.Given as goal

abbrev pub decreases-take_part : goal.decreases-take_part
decreases-take_part l = l.left

-- `take_part` meets its contract: the parts of the elements before d are taken.
abbrev pub invariant-loop-d : goal.invariant-loop-d
invariant-loop-d l =
    PartsTaken l.size.0 (kind_of l.function) (rearrangement_in l.r) l.cells (l.left - 1) l.first l.initial.to l.initial.held l.held l.initial.stands l.stands l.to l.d
