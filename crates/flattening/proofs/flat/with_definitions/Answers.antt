use Prim.Native.Nat.{ℕ}
use mathlib.Core.Path.{◌≡◌, subst}
use native.Mathlib.Numerals.{add-one}
use native.Mathlib.Omega.{arith}
use borrow.Author.Rules.{rules}
use lib.ListN.{length}
use Rattle.flattening.specs.Assembled.{LiteralsPut, definition_at}
use Rattle.flattening.proofs.Assembling.{put-start, put-more}
use Rattle.flattening.proofs.flat.with_definitions.Goals as goal

pub loop-i-init : goal.loop-i-init
loop-i-init c =
    let long : length c.args.flat.literals ≡ 26 = search rules in
    put-start c.args.flat c.args.at _ long

pub loop-i-preserved : goal.loop-i-preserved
loop-i-preserved c = let a = c.args in
    let l = c.loop-i in
    rw add-one (put-more a.flat a.at l.i (definition_at a.l.table a.l.owns) l.flat l.invariant (omega (arith, c.requires.1, c.loop-i-test.true)))

pub returns : goal.returns
returns c = let a = c.args in
    let l = c.loop-i in
    let e : l.i ≡ a.l.table.count = omega arith in
    subst (λ (n : ℕ). LiteralsPut a.flat a.at n (definition_at a.l.table a.l.owns) l.flat) e l.invariant
