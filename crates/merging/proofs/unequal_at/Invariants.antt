use Prim.Native.Nat.{◌+◌}
use mathlib.Core.Path.{◌≡◌}
use lib.ListN.{drop}
use Rattle.syntax.specs.Codes.{words_in}
use Rattle.merging.specs.Unequal.{unequal_place}
use Rattle.merging.proofs.unequal_at.Given as goal

-- `unequal_at` meets its contract: no place before `at` is one.
abbrev pub invariant-loop-at : goal.invariant-loop-at
invariant-loop-at l =
    unequal_place (words_in l.w) ≡ l.at + unequal_place (drop l.at (words_in l.w))
