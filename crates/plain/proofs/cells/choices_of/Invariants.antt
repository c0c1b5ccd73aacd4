use Prim.Native.Nat.{ℕ}
use mathlib.Core.List.{List}
use Rattle.syntax.specs.Signatures.{signature_in}
use Rattle.plain.proofs.Choosing.{Chosen}
use Rattle.plain.proofs.cells.choices_of.Given as goal

-- `choices_of` meets its contract: the cells of the symbols before i have their choices.
abbrev pub invariant-loop-i : goal.invariant-loop-i
invariant-loop-i l =
    (sheet : List ℕ) → Chosen l.size.0 (signature_in sheet l.signature) l.choices l.i
