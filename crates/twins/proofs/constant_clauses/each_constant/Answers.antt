use Prim.Native.Nat.{◌+◌}
use mathlib.Core.Path.{sym}
use native.Mathlib.Omega.{arith}
use Rattle.theory.specs.Lists.{concat_map, up_to}
use Rattle.stream.proofs.Streams.{consumes-same, consumed-same, next-consumes, more-consumed, all-consumed}
use Rattle.twins.specs.Constants.{held_bases}
use Rattle.twins.specs.TwinPart.{twin_clauses, all_twins}
use Rattle.twins.proofs.TwinWalk.{twins-counted}
use Rattle.twins.proofs.constant_clauses.each_constant.Goals as goal

pub constant-requires : goal.constant-requires
constant-requires g c = let s = c in
    let a = s.args in
    let x = a.consumer.now in
    let f = twin_clauses a.size.0 (held_bases a.constants) in
    let l = c.loop-i in
    let y = l.consumer in record {
      held = (s.requires.held.0, omega arith, s.requires.held.1, s.requires.held.2);
      consumes = next-consumes g.C.ClauseConsumer.effect f 0 a.constants.count x l.i l.i y (omega arith) (omega arith)
          (consumes-same g.C.ClauseConsumer.effect (all_twins a.size.0 (held_bases a.constants)) (concat_map f (up_to a.constants.count)) x (twins-counted a.constants a.size.0 s.requires.held.0.held) s.requires.consumes) l.invariant;
    }

pub loop-i-preserved : goal.loop-i-preserved
loop-i-preserved g c = let s = c in
    let a = s.args in
    let x = a.consumer.now in
    let f = twin_clauses a.size.0 (held_bases a.constants) in
    let l = c.loop-i in
    let y = l.consumer in
    let t = c.constant in
    let z = t.new.consumer in
    more-consumed g.C.ClauseConsumer.effect f 0 a.constants.count x l.i (l.i + 1) l.i y z (omega arith) (omega arith) l.invariant t.ensures

pub returns : goal.returns
returns g c = let s = c in
    let a = s.args in
    let x = a.consumer.now in
    let f = twin_clauses a.size.0 (held_bases a.constants) in
    let l = c.loop-i in
    let y = l.consumer in
    consumed-same g.C.ClauseConsumer.effect (concat_map f (up_to a.constants.count)) (all_twins a.size.0 (held_bases a.constants)) x y (sym (twins-counted a.constants a.size.0 s.requires.held.0.held))
    (all-consumed g.C.ClauseConsumer.effect f 0 a.constants.count x l.i y (omega arith) l.invariant)
