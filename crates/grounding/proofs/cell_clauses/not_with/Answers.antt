use Prim.Native.Nat.{ℕ, suc, ◌+◌, ◌-◌}
use mathlib.Core.Path.{sym}
use mathlib.Core.List.{List, [], ◌∷◌}
use native.Mathlib.Omega.{arith}
use Rattle.theory.specs.Lists.{concat_map, up_from}
use Rattle.theory.specs.PropClauses.{not_both}
use Rattle.stream.proofs.Streams.{consumes-same, consumed-same, next-consumes, more-consumed, all-consumed}
use Rattle.theory.specs.Propositional.{PropClause}
use Rattle.grounding.specs.CellPart.{not_with}
use Rattle.grounding.proofs.CellWalk.{one_by_one}
use Rattle.grounding.proofs.cell_clauses.not_with.Goals as goal

pub not_both-requires : goal.not_both-requires
not_both-requires g c = let s = c in
    let a = s.args in
    let x = a.consumer.now in
    let f : ℕ → List PropClause = λ e. not_both (1 + a.x.0) a.d.0 e ∷ [] in
    let l = c.loop-e in
    let y = l.consumer in record { x_bound = (s.requires.size_bound.1, omega arith, omega arith); consumes = next-consumes g.C.ClauseConsumer.effect f (suc a.d.0) (a.size.0 - suc a.d.0) x (l.e - suc a.d.0) l.e y (omega arith) (omega arith) (consumes-same g.C.ClauseConsumer.effect (not_with a.size.0 (1 + a.x.0) a.d.0) (concat_map f (up_from (suc a.d.0) (a.size.0 - suc a.d.0))) x (sym (one_by_one (λ e. not_both (1 + a.x.0) a.d.0 e) (up_from (suc a.d.0) (a.size.0 - suc a.d.0)))) s.requires.consumes) l.invariant }

pub loop-e-preserved : goal.loop-e-preserved
loop-e-preserved g c = let s = c in
    let a = s.args in
    let x = a.consumer.now in
    let f : ℕ → List PropClause = λ e. not_both (1 + a.x.0) a.d.0 e ∷ [] in
    let l = c.loop-e in
    let y = l.consumer in
    let t = c.not_both in
    let z = t.new.consumer in
    more-consumed g.C.ClauseConsumer.effect f (suc a.d.0) (a.size.0 - suc a.d.0) x (l.e - suc a.d.0) (l.e + 1 - suc a.d.0) l.e y z (omega arith) (omega arith) l.invariant t.ensures

pub returns : goal.returns
returns g c = let s = c in
    let a = s.args in
    let x = a.consumer.now in
    let f : ℕ → List PropClause = λ e. not_both (1 + a.x.0) a.d.0 e ∷ [] in
    let l = c.loop-e in
    let y = l.consumer in
    consumed-same g.C.ClauseConsumer.effect (concat_map f (up_from (suc a.d.0) (a.size.0 - suc a.d.0))) (not_with a.size.0 (1 + a.x.0) a.d.0) x y
    (one_by_one (λ e. not_both (1 + a.x.0) a.d.0 e) (up_from (suc a.d.0) (a.size.0 - suc a.d.0)))
    (all-consumed g.C.ClauseConsumer.effect f (suc a.d.0) (a.size.0 - suc a.d.0) x (l.e - suc a.d.0) y (omega arith) l.invariant)
