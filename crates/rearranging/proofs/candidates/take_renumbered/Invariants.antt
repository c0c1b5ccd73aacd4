use Prim.Native.Nat.{ℕ}
use mathlib.Core.List.{List}
use Rattle.syntax.specs.Signatures.{signature_in}
use Rattle.rearranging.specs.Entries.{rearrangement_in}
use Rattle.rearranging.proofs.Symbols.{SymbolsTaken}
use Rattle.rearranging.proofs.candidates.take_renumbered.Given as goal

-- `take_renumbered` meets its contract: the tables of the symbols before i are taken.
abbrev pub invariant-loop-i : goal.invariant-loop-i
invariant-loop-i l =
    (sheet : List ℕ) → SymbolsTaken l.size.0 (rearrangement_in l.r) l.cells (signature_in sheet l.signature) l.initial.held l.held l.initial.stands l.stands l.base l.i
