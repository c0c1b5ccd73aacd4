use Prim.Native.Nat.{◌+◌}
use native.Mathlib.Omega.{arith}
use Rattle.stream.proofs.Streams.{next-consumes, more-consumed}
use Rattle.grounding.specs.CellPart.{not_with}
use Rattle.grounding.proofs.cell_clauses.not_two.Goals as goal

pub not_with-requires : goal.not_with-requires
not_with-requires g c = let s = c in
    let a = s.args in
    let x = a.consumer.now in
    let f = not_with a.size.0 (1 + a.x.0) in
    let l = c.loop-d in
    let y = l.consumer in record { size_bound = (s.requires.size_bound.0, s.requires.size_bound.1, omega arith); consumes = next-consumes g.C.ClauseConsumer.effect f 0 a.size.0 x l.d l.d y (omega arith) (omega arith) s.requires.consumes l.invariant }

pub loop-d-preserved : goal.loop-d-preserved
loop-d-preserved g c = let s = c in
    let a = s.args in
    let x = a.consumer.now in
    let f = not_with a.size.0 (1 + a.x.0) in
    let l = c.loop-d in
    let y = l.consumer in
    let t = c.not_with in
    let z = t.new.consumer in
    more-consumed g.C.ClauseConsumer.effect f 0 a.size.0 x l.d (l.d + 1) l.d y z (omega arith) (omega arith) l.invariant t.ensures
