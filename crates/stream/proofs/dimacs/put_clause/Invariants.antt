use Prim.Native.Nat.{◌+◌}
use mathlib.Core.Path.{◌≡◌}
use lib.ListN.{length, take}
use Rattle.text.specs.Put.{put}
use Rattle.stream.specs.Literals.{prop_clause_of}
use Rattle.stream.proofs.Texts.{body}
use Rattle.stream.proofs.dimacs.put_clause.Given as goal

-- `put_clause` meets its contract: the first literals are written.
abbrev pub invariant-loop-l : goal.invariant-loop-l
invariant-loop-l l =
    (l.out ≡ put l.initial.out l.at (body (prop_clause_of (take l.l-index l.clause)))) × (l.e ≡ l.at + length (body (prop_clause_of (take l.l-index l.clause))))
