use Prim.Native.Nat.{ℕ}
use mathlib.Core.List.{List}
use Rattle.syntax.specs.Signatures.{signature_in}
use Rattle.valuations.proofs.Numbered.{Numbered}
use Rattle.valuations.proofs.numbering.numbering_of.Given as goal

-- `numbering_of` meets its contract: the symbols before i are numbered.
abbrev pub invariant-loop-i : goal.invariant-loop-i
invariant-loop-i l =
    (sheet : List ℕ) → Numbered (signature_in sheet l.signature) l.size.0 l.n l.i
