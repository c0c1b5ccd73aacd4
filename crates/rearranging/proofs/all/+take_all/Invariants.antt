use Prim.Native.Nat.{ℕ, ◌+◌, ◌-◌}
use mathlib.Core.List.{List}
use Rattle.renumbering.specs.Renumbering.{renumbered}
use Rattle.syntax.specs.Signatures.{signature_in}
use Rattle.rearranging.specs.Entries.{rearrangement_in}
use Rattle.rearranging.proofs.Walking.{Walked}
use Rattle.rearranging.proofs.all.+take_all.Given as goal

abbrev pub decreases-take_all : goal.decreases-take_all
decreases-take_all l = l.size.0 - l.begun.count

-- `take_all` meets its contract: the rearrangements that go on with an element before d are gone through.
abbrev pub invariant-loop-d : goal.invariant-loop-d
invariant-loop-d l =
    (sheet : List ℕ) → Walked (λ p. renumbered l.size.0 (signature_in sheet l.signature) p l.cells) l.size.0 (l.size.0 - (l.begun.count + 1)) (rearrangement_in l.begun) l.initial.held l.held l.d
