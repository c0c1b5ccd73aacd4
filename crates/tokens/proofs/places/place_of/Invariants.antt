use Rattle.tokens.proofs.LineSteps.{Placed}
use Rattle.tokens.proofs.places.place_of.Given as goal

-- `place_of` counts lines, and columns from the last line's start on.
abbrev pub invariant-loop-b : goal.invariant-loop-b
invariant-loop-b l =
    Placed l.text l.n l.b-index l.line l.column
