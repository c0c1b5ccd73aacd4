use Rattle.flattening.specs.Assembled.{LiteralsPut, definition_at}
use Rattle.flattening.proofs.flat.with_definitions.Given as goal

-- `with_definitions` meets its contract: the first i are put.
abbrev pub invariant-loop-i : goal.invariant-loop-i
invariant-loop-i l =
    LiteralsPut l.initial.flat l.at l.i (definition_at l.table l.owns) l.flat
