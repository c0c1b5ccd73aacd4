use Prim.Native.Nat.{◌-◌}
use mathlib.Core.Path.{◌≡◌}
use lib.ListN.{length}
use Rattle.truth.specs.Values.{Chosen, ClauseLent}
use Rattle.truth.proofs.Clausewise.{LiteralsLeft}
use Rattle.truth.proofs.values.clause_value.Given as goal

-- `clause_value` meets its contract: the literals from place `at` on have the truth of the clause.
abbrev pub invariant-loop-at : goal.invariant-loop-at
invariant-loop-at l =
    (length l.values ≡ 64) × ((c : ClauseLent l.words l.place l.arities l.functions l.bases l.cells l.size.0) (k : Chosen c.variables l.size.0 l.choice) → LiteralsLeft c k l.at)

abbrev pub decreases-loop-at : goal.decreases-loop-at
decreases-loop-at l =
    length l.words - l.at
