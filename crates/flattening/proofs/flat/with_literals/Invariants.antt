use Rattle.flattening.specs.Assembled.{LiteralsPut, shallow_at}
use Rattle.flattening.proofs.flat.with_literals.Given as goal

-- `with_literals` meets its contract: the first j are put.
abbrev pub invariant-loop-j : goal.invariant-loop-j
invariant-loop-j l =
    LiteralsPut l.initial.flat l.at l.j (shallow_at l.fn.l) l.flat
