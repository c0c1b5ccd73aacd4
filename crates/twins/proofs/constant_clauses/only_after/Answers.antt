-- `only_after` meets its contract.
use Prim.Native.Nat.{◌+◌}
use mathlib.Core.Path.{sym, ap}
use mathlib.Core.List.{[], ◌∷◌}
use lib.ListN.{take}
use Rattle.theory.specs.Propositional.{PropClause}
use Rattle.stream.specs.Literals.{prop_clause_of}
use Rattle.stream.proofs.Streams.{consumes-same, consumed-same}
use Rattle.twins.specs.Constants.{held_bases}
use Rattle.twins.specs.TwinPart.{after_clause}
use Rattle.twins.proofs.TwinWalk.{after-whole}
use Rattle.twins.proofs.constant_clauses.only_after.Goals as goal

pub take-requires : goal.take-requires
take-requires g c = let s = c in
    let a = s.args in
    let k = c.after_codes-codes in
    let e = after-whole a.constants a.i a.d.0 k.result k.ensures in
    consumes-same g.C.ClauseConsumer.effect (after_clause (held_bases a.constants) a.i a.d.0 ∷ []) (prop_clause_of (take (a.i + 1) k.result) ∷ []) a.consumer.now (ap (λ (c : PropClause). c ∷ []) (sym e)) s.requires.consumes

pub returns : goal.returns
returns g c = let s = c in
    let a = s.args in
    let x = a.consumer.now in
    let k = c.after_codes-codes in
    let e = after-whole a.constants a.i a.d.0 k.result k.ensures in
    let t = c.take in
    consumed-same g.C.ClauseConsumer.effect (prop_clause_of (take (a.i + 1) k.result) ∷ []) (after_clause (held_bases a.constants) a.i a.d.0 ∷ []) x t.new.self (ap (λ (c : PropClause). c ∷ []) e) t.ensures
