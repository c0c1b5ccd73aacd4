use Prim.Native.Nat.{ℕ}
use mathlib.Core.List.{List}
use Rattle.syntax.specs.Signatures.{signature_in}
use Rattle.interpretation.proofs.Tabling.{Tabled}
use Rattle.interpretation.proofs.tables.tables_of.Given as goal

-- `tables_of` meets its contract: the tables of the symbols before i are written.
abbrev pub invariant-loop-i : goal.invariant-loop-i
invariant-loop-i l =
    (sheet : List ℕ) → Tabled (signature_in sheet l.signature) l.size.0 l.t l.i
