use mathlib.Core.Path.{◌≡◌}
use lib.ListN.{length}
use Rattle.judging.proofs.LettersShown.{Filled}
use Rattle.judging.proofs.reasons.letters_of.Given as goal

-- `letters_of` meets its contract: the letters below x stand at their places.
abbrev pub invariant-loop-x : goal.invariant-loop-x
invariant-loop-x l =
    (length l.letters ≡ 8) × Filled l.variables l.x l.letters
