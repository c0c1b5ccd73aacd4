use Prim.Native.Nat.{◌+◌}
use mathlib.Core.Path.{◌≡◌}
use lib.ListN.{length, take}
use Rattle.stream.specs.Literals.{prop_clause_of}
use Rattle.stream.proofs.Texts.{body}
use Rattle.stream.proofs.dimacs.clause_length.Given as goal

-- `clause_length` meets its contract: the first literals are measured.
abbrev pub invariant-loop-l : goal.invariant-loop-l
invariant-loop-l l =
    l.n ≡ length (body (prop_clause_of (take l.l-index l.clause))) + 2
