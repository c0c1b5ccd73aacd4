use mathlib.Core.Path.{◌≡◌}
use lib.ListN.{length}
use Rattle.printing.specs.Reasons.{Printable}
use Rattle.printing.proofs.ReasonLines.{LinesPut}
use Rattle.printing.proofs.reasons.put_letters.Given as goal

-- the lines of the letters so far stand in the output
abbrev pub invariant-loop-i : goal.invariant-loop-i
invariant-loop-i l =
    (length l.out ≡ length l.initial.out) × ((p : Printable l.reason) → LinesPut l.reason p l.initial.out l.out l.at l.end l.i)
