-- `not_both` meets its contract.
use Prim.Native.Nat.{◌+◌}
use mathlib.Core.Path.{ap}
use mathlib.Core.List.{[], ◌∷◌}
use Rattle.theory.specs.Propositional.{PropClause}
use Rattle.theory.specs.PropClauses.{not_both}
use Rattle.stream.specs.Literals.{prop_clause_of}
use Rattle.stream.proofs.Streams.{consumed-same}
use Rattle.grounding.proofs.CellWalk.{pair-clause}
use Rattle.grounding.proofs.cell_clauses.not_both.Goals as goal

pub returns : goal.returns
returns g c = let s = c in
    let a = s.args in
    let x = a.consumer.now in
    let q = c in
    let u = q.literal.result in
    let w = q.literal-2.result in
    let e = pair-clause a.x.0 a.d.0 a.e.0 _ _ u w q.result_is.ensures q.result_is-2.ensures q.literal.ensures q.literal-2.ensures in
    let t = c.take in
    consumed-same g.C.ClauseConsumer.effect (prop_clause_of (u ∷ w ∷ []) ∷ []) (not_both (1 + a.x.0) a.d.0 a.e.0 ∷ []) x t.new.self (ap (λ (c : PropClause). c ∷ []) e) t.ensures
