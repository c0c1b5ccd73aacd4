use Prim.Native.Nat.{◌-◌}
use mathlib.Core.Path.{◌≡◌}
use lib.ListN.{length}
use Rattle.theory.specs.Lists.{up_from}
use Rattle.theory.specs.Least.{first_of}
use Rattle.plain.specs.Filling.{filled_from}
use Rattle.plain.proofs.Guesses.{after}
use Rattle.plain.proofs.filling.+fill.Given as goal

abbrev pub decreases-fill : goal.decreases-fill
decreases-fill l = length l.choices.now - l.at

-- `fill` meets its contract: the values that are still to be tried give what it answers.
abbrev pub invariant-loop-d : goal.invariant-loop-d
invariant-loop-d l =
    (l.cells ≡ l.initial.cells)
    × (length l.cells.values ≡ 64)
    × (filled_from l.sheet l.p l.size.0 l.choices l.initial.cells.values l.at ≡ first_of (after l.sheet l.p l.size.0 l.choices l.initial.cells.values l.at) (up_from l.d (l.count - l.d)))
