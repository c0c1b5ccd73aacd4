use native.Mathlib.Omega.{arith}
use Rattle.truth.proofs.Atoms.{is-predicate, predicate-cell}
use Rattle.truth.proofs.SymbolCells.{base-small}
use Rattle.truth.proofs.values.atom_value.Goals as goal

pub cell_at-c-requires : goal.cell_at-c-requires
cell_at-c-requires c = let a = c.requires in
    let p = is-predicate a c.if-word-eq-EQUALS.false in
    (base-small a.interprets _ p.below, (a.interprets.size, (omega (arith, p.arity, a.interprets.small.arities _ p.below), a.below)))

pub predicate_value-requires : goal.predicate_value-requires
predicate_value-requires c = let a = c.requires in
    predicate-cell a (is-predicate a c.if-word-eq-EQUALS.false) _ c.cell_at-c.ensures
