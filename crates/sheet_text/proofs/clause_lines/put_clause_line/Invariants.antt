use Prim.Native.Nat.{◌+◌}
use mathlib.Core.Path.{◌≡◌}
use lib.ListN.{length}
use Rattle.syntax.specs.Signatures.{signature_in}
use Rattle.text.specs.Put.{put}
use Rattle.sheet_text.proofs.WordsBefore.{words_before}
use Rattle.sheet_text.proofs.clause_lines.put_clause_line.Given as goal

-- `put_clause_line` meets its contract: the words before i are written.
abbrev pub invariant-loop-i : goal.invariant-loop-i
invariant-loop-i l =
    (length l.out ≡ length l.initial.out) × (l.out ≡ put l.initial.out l.initial.e (words_before (signature_in l.text l.signature) l.words l.i)) × (l.e ≡ l.initial.e + length (words_before (signature_in l.text l.signature) l.words l.i))
