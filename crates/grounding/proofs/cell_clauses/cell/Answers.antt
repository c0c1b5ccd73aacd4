-- `cell` meets its contract: some result, then not two.
use Prim.Native.Nat.{◌+◌}
use mathlib.Core.Path.{ap}
use mathlib.Core.List.{[], ◌∷◌}
use Rattle.stream.proofs.Streams.{consumed-same}
use lib.ListN.{take}
use Rattle.theory.specs.Propositional.{PropClause}
use Rattle.theory.specs.PropClauses.{some_result, not_two}
use Rattle.stream.specs.Literals.{prop_clause_of}
use Rattle.stream.proofs.Streams.{rest-consumes, both-consumed}
use Rattle.grounding.proofs.cell_clauses.cell.Goals as goal

pub not_two-requires : goal.not_two-requires
not_two-requires g c = let s = c in
    let a = s.args in
    let x = a.consumer.now in
    let some = some_result a.size.0 (1 + a.x.0) in
    let two = not_two a.size.0 (1 + a.x.0) in
    let c₁ = prop_clause_of (take a.size.0 c.some_result-some.result) in
    let e = ap (λ (c : PropClause). c ∷ []) c.some_result-some.ensures in
    let t = c.take in
    let z = t.new.self in record { size_bound = s.requires.size_bound; consumes = rest-consumes g.C.ClauseConsumer.effect (some ∷ []) two x z s.requires.consumes (consumed-same g.C.ClauseConsumer.effect (c₁ ∷ []) (some ∷ []) x z e t.ensures) }

pub returns : goal.returns
returns g c = let s = c in
    let a = s.args in
    let x = a.consumer.now in
    let some = some_result a.size.0 (1 + a.x.0) in
    let two = not_two a.size.0 (1 + a.x.0) in
    let c₁ = prop_clause_of (take a.size.0 c.some_result-some.result) in
    let e = ap (λ (c : PropClause). c ∷ []) c.some_result-some.ensures in
    let t = c.take in
    let z = t.new.self in
    let u = c.not_two in
    both-consumed g.C.ClauseConsumer.effect (some ∷ []) two x z u.new.consumer (consumed-same g.C.ClauseConsumer.effect (c₁ ∷ []) (some ∷ []) x z e t.ensures) u.ensures
