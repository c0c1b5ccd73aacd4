use Prim.Native.Nat.{◌≤◌}
use mathlib.Core.Path.{◌≡◌}
use lib.ListN.{length}
use Rattle.theory.specs.Syntax.{Signature}
use Rattle.syntax.specs.Codes.{IsClause}
use Rattle.merging.proofs.Rounds.{Round}
use Rattle.merging.proofs.merged.Given as goal

-- `merged` meets its contract: each round keeps what the clause is after step 1.
abbrev pub invariant-loop-at : goal.invariant-loop-at
invariant-loop-at l =
    (l.w.count ≤ 64) × (length l.w.words ≡ 64) × ((g : Signature) → IsClause g l.initial.w → Round g l.initial.w l.w)

abbrev pub decreases-loop-at : goal.decreases-loop-at
decreases-loop-at l =
    l.w.count
