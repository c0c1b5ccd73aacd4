-- `constant` meets its contract: the range is taken, then the further results.
use Prim.Native.Nat.{◌-◌}
use mathlib.Core.Path.{◌≡◌, sym}
use mathlib.Core.List.{[], ◌∷◌, ◌++◌}
use native.Mathlib.Omega.{arith}
use lib.ListN.{length, take}
use lib.Seq.{length-take-le}
use Rattle.stream.specs.Literals.{prop_clause_of}
use Rattle.stream.proofs.Streams.{consumes-same, consumed-same, first-consumes, rest-consumes, both-consumed}
use Rattle.twins.specs.Constants.{held_bases}
use Rattle.twins.specs.TwinPart.{step_clauses, twin_clauses}
use Rattle.twins.proofs.TwinWalk.{range-and-steps}
use borrow.Author.Rules.{rules}
use Rattle.twins.proofs.constant_clauses.constant.Goals as goal

pub some_result-range-requires : goal.some_result-range-requires
some_result-range-requires g c = let s = c in
    (omega (arith, c.min-most.ensures, s.requires.held.3), omega (arith, s.requires.held.0.small s.args.i s.requires.held.1))

pub slice_bounds-take-end : goal.slice_bounds-take-end
slice_bounds-take-end g c = let r = c.some_result-range.result in
    let e : length r ≡ 8 = search rules in
    sym (length-take-le c.min-most.result r (omega (arith, e, c.min-most.ensures, c.requires.held.3)))

pub take-requires : goal.take-requires
take-requires g c = let s = c in
    let a = s.args in
    let x = a.consumer.now in
    let m = c.min-most in
    let k = c.some_result-range in
    let range = prop_clause_of (take m.result k.result) ∷ [] in
    let steps = step_clauses (held_bases a.constants) a.i (m.result - 1) in
    let e = range-and-steps a.constants a.i a.size.0 m.result k.result s.requires.held.1 m.ensures k.ensures in
    first-consumes g.C.ClauseConsumer.effect range steps x (consumes-same g.C.ClauseConsumer.effect (twin_clauses a.size.0 (held_bases a.constants) a.i) (range ++ steps) x e s.requires.consumes)

pub further-requires : goal.further-requires
further-requires g c = let s = c in
    let a = s.args in
    let x = a.consumer.now in
    let m = c.min-most in
    let k = c.some_result-range in
    let range = prop_clause_of (take m.result k.result) ∷ [] in
    let steps = step_clauses (held_bases a.constants) a.i (m.result - 1) in
    let e = range-and-steps a.constants a.i a.size.0 m.result k.result s.requires.held.1 m.ensures k.ensures in
    let t = c.take in
    let y = t.new.self in record { held = (s.requires.held.0, s.requires.held.1, omega (arith, m.ensures, s.requires.held.2), omega (arith, m.ensures, s.requires.held.3)); consumes = rest-consumes g.C.ClauseConsumer.effect range steps x y (consumes-same g.C.ClauseConsumer.effect (twin_clauses a.size.0 (held_bases a.constants) a.i) (range ++ steps) x e s.requires.consumes) t.ensures }

pub returns : goal.returns
returns g c = let s = c in
    let a = s.args in
    let x = a.consumer.now in
    let m = c.min-most in
    let k = c.some_result-range in
    let range = prop_clause_of (take m.result k.result) ∷ [] in
    let steps = step_clauses (held_bases a.constants) a.i (m.result - 1) in
    let e = range-and-steps a.constants a.i a.size.0 m.result k.result s.requires.held.1 m.ensures k.ensures in
    let t = c.take in
    let y = t.new.self in
    let q = c.further in
    let z = q.new.consumer in
    consumed-same g.C.ClauseConsumer.effect (range ++ steps) (twin_clauses a.size.0 (held_bases a.constants) a.i) x z (sym e) (both-consumed g.C.ClauseConsumer.effect range steps x y z t.ensures q.ensures)
