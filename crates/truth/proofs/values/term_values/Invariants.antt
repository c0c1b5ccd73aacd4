use mathlib.Core.Path.{◌≡◌}
use lib.ListN.{length}
use Rattle.truth.specs.Steps.{TermsLent}
use Rattle.truth.proofs.InsideOut.{ValuedFrom}
use Rattle.truth.proofs.values.term_values.Given as goal

-- `term_values` meets its contract: the words from place `done` on are valued.
abbrev pub invariant-loop-i : goal.invariant-loop-i
invariant-loop-i l =
    (length l.values ≡ length l.initial.values) × ((t : TermsLent l.words l.from l.tail l.arities l.bases l.cells l.size.0 l.initial.values) → ValuedFrom t l.i l.top l.values)
