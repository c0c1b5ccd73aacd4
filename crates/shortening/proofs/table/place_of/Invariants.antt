use Rattle.shortening.specs.Tables.{spans_of}
use Rattle.shortening.proofs.FirstPlace.{FirstFrom}
use Rattle.shortening.proofs.TableWalk.{alike}
use Rattle.shortening.proofs.table.place_of.Given as goal

-- `place_of` finds the bytes: they stand at no place before i.
abbrev pub invariant-loop-i : goal.invariant-loop-i
invariant-loop-i l =
    FirstFrom (alike l.sheet l.term) (spans_of l.terms) l.i
