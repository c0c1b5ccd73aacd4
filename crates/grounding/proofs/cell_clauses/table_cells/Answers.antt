use Prim.Native.Nat.{ℕ, ◌+◌, ◌*◌}
use mathlib.Core.List.{List}
use native.Mathlib.Omega.{arith}
use Rattle.stream.proofs.Streams.{next-consumes, more-consumed}
use Rattle.theory.specs.Propositional.{PropClause}
use Rattle.theory.specs.PropClauses.{cell_clauses}
use Rattle.grounding.proofs.CellWalk.{row_small}
use Rattle.grounding.proofs.cell_clauses.table_cells.Goals as goal

pub cell-requires : goal.cell-requires
cell-requires g c = let s = c in
    let a = s.args in
    let x = a.consumer.now in
    let f : ℕ → List PropClause = λ r. cell_clauses a.size.0 (1 + (a.base.0 + r * a.size.0)) in
    let l = c.loop-r in
    let y = l.consumer in record { size_bound = (s.requires.size_bound.0, omega (arith, row_small l.r a.size.0 (omega arith) s.requires.size_bound.0)); consumes = next-consumes g.C.ClauseConsumer.effect f 0 a.cells x l.r l.r y (omega arith) (omega arith) s.requires.consumes l.invariant }

pub loop-r-preserved : goal.loop-r-preserved
loop-r-preserved g c = let s = c in
    let a = s.args in
    let x = a.consumer.now in
    let f : ℕ → List PropClause = λ r. cell_clauses a.size.0 (1 + (a.base.0 + r * a.size.0)) in
    let l = c.loop-r in
    let y = l.consumer in
    let t = c.cell in
    let z = t.new.consumer in
    more-consumed g.C.ClauseConsumer.effect f 0 a.cells x l.r (l.r + 1) l.r y z (omega arith) (omega arith) l.invariant t.ensures
