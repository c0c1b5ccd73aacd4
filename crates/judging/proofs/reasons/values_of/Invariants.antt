use mathlib.Core.Path.{◌≡◌}
use lib.ListN.{length}
use Rattle.judging.proofs.ValuesShown.{Shown}
use Rattle.judging.proofs.reasons.values_of.Given as goal

-- `values_of` meets its contract: the first i values stand at their places.
abbrev pub invariant-loop-i : goal.invariant-loop-i
invariant-loop-i l =
    (length l.shown ≡ 8) × Shown l.values l.i l.shown
