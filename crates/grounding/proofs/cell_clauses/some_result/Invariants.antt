use Prim.Native.Nat.{◌+◌}
use mathlib.Core.Path.{◌≡◌}
use lib.ListN.{length, take}
use Rattle.theory.specs.PropClauses.{some_result}
use Rattle.stream.specs.Literals.{prop_clause_of}
use Rattle.grounding.proofs.cell_clauses.some_result.Given as goal

-- `some_result` meets its contract: the first d literals are written.
abbrev pub invariant-loop-d : goal.invariant-loop-d
invariant-loop-d l =
    (length l.some ≡ 8) × (prop_clause_of (take l.d l.some) ≡ some_result l.d (1 + l.x.0))
