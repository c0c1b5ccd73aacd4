use Prim.Native.Nat.{ℕ}
use mathlib.Core.Path.{◌≡◌, subst}
use native.Mathlib.Omega.{arith}
use Rattle.shortening.specs.HelperWords.{HelpersBehind}
use Rattle.shortening.proofs.HelperSymbols.{none-behind, one-behind}
use Rattle.shortening.proofs.helpers.with_helpers.Goals as goal

pub loop-init : goal.loop-init
loop-init c = none-behind _

pub with-all-requires : goal.with-all-requires
with-all-requires c = omega (arith, c.requires.1, c.loop-test.true, c.loop.invariant.count)

pub loop-preserved : goal.loop-preserved
loop-preserved c =
    let l = c.loop in
    let w = c.with-all in
    one-behind _ l.all w.result l.counter c.helper.result l.invariant c.helper.ensures w.ensures.count w.ensures.symbols

pub returns : goal.returns
returns c =
    let l = c.loop in
    let e : l.counter ≡ c.args.n = omega arith in
    subst (λ (k : ℕ). HelpersBehind c.args.signature k l.all) e l.invariant
