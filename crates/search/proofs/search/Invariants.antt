use mathlib.Core.Bool.{Bool}
use mathlib.Core.List.{List}
use Prim.Native.Nat.{ℕ, ◌≤◌}
use Rattle.theory.specs.Propositional.{PropClause}
use Rattle.propagation.specs.WorkArea.{trail}
use Rattle.search.specs.Search.{Started}
use Rattle.search.proofs.Potential.{potential}
use Rattle.search.proofs.Searching.{Searching}
use Rattle.search.proofs.search.Given as goal

-- `search` meets its contract. The invariant of its loop: the whole walk has made so many choices, which are allowed, and goes on from the trail and its open choices. The measure is the trail's potential.
abbrev pub invariant-loop-clash : goal.invariant-loop-clash
invariant-loop-clash l =
    ((cs : List PropClause) (first : ℕ → Bool) → Started l.v cs first l.len l.initial.work → Searching l.v cs first l.initial.work l.front.head l.front.len l.choices l.work)
    × (l.choices ≤ l.allowed)

abbrev pub decreases-loop-clash : goal.decreases-loop-clash
decreases-loop-clash l =
    potential l.v (trail l.work l.v l.front.len)
