-- `assembled` meets its contract: the definitions are put into an empty clause, the literals behind them.
use mathlib.Core.Path.{◌≡◌, ap, ◌∙◌, subst}
use Prim.Native.Nat.{◌+◌}
use native.Mathlib.Omega.{arith}
use Rattle.flattening.specs.declared.flat.FlatClause.{FlatClause}
use Rattle.flattening.specs.Assembled.{empty_flat, definition_at, LiteralsPut}
use Rattle.flattening.proofs.Assembling.{assembled-end}
use Rattle.flattening.proofs.flat.assembled.Goals as goal

pub with_definitions-defined-requires : goal.with_definitions-defined-requires
with_definitions-defined-requires c = let p = c.requires in
    (p, omega (arith, p.terms, p.literals))

pub with_literals-requires : goal.with_literals-requires
with_literals-requires c = let p = c.requires in
    (p, omega (arith, p.terms, p.literals))

pub returns : goal.returns
returns c = let l = c.args.l in
    let e : c.empty-flat.result ≡ empty_flat (l.table.count + l.count) (l.owns + l.table.count) =
    c.empty-flat.ensures ∙ ap (empty_flat (l.table.count + l.count)) c.variables.ensures in
    let d : LiteralsPut (empty_flat (l.table.count + l.count) (l.owns + l.table.count)) 0 l.table.count (definition_at l.table l.owns) c.with_definitions-defined.result =
    subst (λ (f : FlatClause). LiteralsPut f 0 l.table.count (definition_at l.table l.owns) c.with_definitions-defined.result) e c.with_definitions-defined.ensures in
    assembled-end l c.with_definitions-defined.result c.with_literals.result d c.with_literals.ensures
