use Prim.Native.Nat.{ℕ}
use Rattle.syntax.specs.Signatures.{signature_in}
use Rattle.clauses.proofs.Naming.{NameFrom}
use Rattle.clauses.proofs.names.find_name.Given as goal

-- `find_name` finds the name: its place from i on is its place.
abbrev pub invariant-loop-i : goal.invariant-loop-i
invariant-loop-i l =
    (r : ℕ) → NameFrom l.name (signature_in l.sheet l.signature) l.i r → NameFrom l.name (signature_in l.sheet l.signature) 0 r
