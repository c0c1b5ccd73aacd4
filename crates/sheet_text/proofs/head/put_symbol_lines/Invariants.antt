use Prim.Native.Nat.{◌+◌}
use mathlib.Core.Path.{◌≡◌}
use lib.ListN.{length}
use Rattle.text.specs.Put.{put}
use Rattle.sheet_text.proofs.SymbolLines.{lines_of}
use Rattle.sheet_text.proofs.head.put_symbol_lines.Given as goal

-- `put_symbol_lines` meets its contract: the lines of the symbols before i are written.
abbrev pub invariant-loop-i : goal.invariant-loop-i
invariant-loop-i l =
    (length l.out ≡ length l.initial.out) × (l.out ≡ put l.initial.out l.at (lines_of l.k.key.now l.text l.signature l.k.from l.i)) × (l.e ≡ l.at + length (lines_of l.k.key.now l.text l.signature l.k.from l.i))
