use Prim.Native.Nat.{suc}
use mathlib.Core.Path.{◌≡◌}
use lib.ListN.{length, take}
use Rattle.stream.specs.Literals.{prop_clause_of}
use Rattle.twins.specs.Constants.{held_bases}
use Rattle.twins.proofs.TwinWalk.{some_after}
use Rattle.twins.proofs.constant_clauses.after_codes.Given as goal

-- `after_codes` meets its contract: the literals of the first j constants are written.
abbrev pub invariant-loop-j : goal.invariant-loop-j
invariant-loop-j l =
    (length l.codes ≡ 56) × (prop_clause_of (take (suc l.j) l.codes) ≡ some_after (held_bases l.constants) l.i l.d.0 l.j)
