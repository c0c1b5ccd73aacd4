use mathlib.Core.Path.{◌≡◌}
use mathlib.Core.Bool.{true}
use Rattle.theory.specs.Lists.{all, elem, up_to}
use Rattle.rearranging.specs.Entries.{rearrangement_in}
use Rattle.rearranging.proofs.rearrangement.Rearrangement.covers.Given as goal

-- `covers` meets its contract: the elements before d are among the entries.
abbrev pub invariant-loop-d : goal.invariant-loop-d
invariant-loop-d l =
    all (λ e. elem e (rearrangement_in l.self)) (up_to l.d) ≡ true
