use Prim.Native.Nat.{ℕ, ◌+◌, ◌-◌}
use mathlib.Core.Path.{sym}
use mathlib.Core.List.{List, [], ◌∷◌}
use native.Mathlib.Omega.{arith}
use Rattle.theory.specs.Lists.{concat_map, up_to}
use Rattle.theory.specs.Propositional.{PropClause}
use Rattle.stream.proofs.Streams.{consumes-same, consumed-same, next-consumes, more-consumed, all-consumed}
use Rattle.twins.specs.Constants.{held_bases}
use Rattle.twins.specs.TwinPart.{after_clause, step_clauses}
use Rattle.twins.proofs.TwinWalk.{steps-one-by-one}
use Rattle.twins.proofs.constant_clauses.further.Goals as goal

pub only_after-requires : goal.only_after-requires
only_after-requires g c = let s = c in
    let a = s.args in
    let x = a.consumer.now in
    let f : ℕ → List PropClause = λ d. after_clause (held_bases a.constants) a.i d ∷ [] in
    let l = c.loop-d in
    let y = l.consumer in record {
      held = (s.requires.held.0, s.requires.held.1, omega (arith, s.requires.held.3));
      consumes = next-consumes g.C.ClauseConsumer.effect f 0 (a.most - 1) x l.d l.d y (omega arith) (omega arith)
          (consumes-same g.C.ClauseConsumer.effect (step_clauses (held_bases a.constants) a.i (a.most - 1)) (concat_map f (up_to (a.most - 1))) x (sym (steps-one-by-one (held_bases a.constants) a.i (a.most - 1))) s.requires.consumes) l.invariant;
    }

pub loop-d-preserved : goal.loop-d-preserved
loop-d-preserved g c = let s = c in
    let a = s.args in
    let x = a.consumer.now in
    let f : ℕ → List PropClause = λ d. after_clause (held_bases a.constants) a.i d ∷ [] in
    let l = c.loop-d in
    let y = l.consumer in
    let t = c.only_after in
    let z = t.new.consumer in
    more-consumed g.C.ClauseConsumer.effect f 0 (a.most - 1) x l.d (l.d + 1) l.d y z (omega arith) (omega arith) l.invariant t.ensures

pub returns : goal.returns
returns g c = let s = c in
    let a = s.args in
    let x = a.consumer.now in
    let f : ℕ → List PropClause = λ d. after_clause (held_bases a.constants) a.i d ∷ [] in
    let l = c.loop-d in
    let y = l.consumer in
    consumed-same g.C.ClauseConsumer.effect (concat_map f (up_to (a.most - 1))) (step_clauses (held_bases a.constants) a.i (a.most - 1)) x y (steps-one-by-one (held_bases a.constants) a.i (a.most - 1))
    (all-consumed g.C.ClauseConsumer.effect f 0 (a.most - 1) x l.d y (omega arith) l.invariant)
