use mathlib.Core.Path.{◌≡◌}
use mathlib.Core.Bool.{Bool}
use mathlib.Core.List.{List}
use Prim.Native.Nat.{ℕ}
use lib.ListN.{length}
use Rattle.theory.specs.Propositional.{PropClause}
use Rattle.propagation.specs.Clauses.{coded}
use Rattle.propagation.specs.WorkArea.{Loaded}
use Rattle.search.proofs.Beginning.{Beginning}
use Rattle.search.proofs.begin.Given as goal

-- `begin` meets its contract. The invariant of its loop: the clauses below the address are quiet, and what is on the trail is forced.
abbrev pub invariant-loop-address : goal.invariant-loop-address
invariant-loop-address l =
    (cs : List PropClause) (first : ℕ → Bool) → Loaded l.v cs first l.initial.work → length cs ≡ l.m → Beginning l.v (coded cs) l.initial.work l.address l.entries l.work
