use Prim.Native.Nat.{ℕ}
use mathlib.Core.Path.{◌≡◌, subst}
use native.Mathlib.Omega.{arith}
use Rattle.counts.specs.Totals.{ConstantsTotal}
use Rattle.counts.proofs.Adding.{no-constant, one-constant}
use Rattle.counts.proofs.all_constant_counts.Goals as goal

pub loop-i-init : goal.loop-i-init
loop-i-init c = no-constant _ c.default-total.result (omega arith) (omega arith)

pub constant_counts-one-requires : goal.constant_counts-one-requires
constant_counts-one-requires c = let z = c in (omega arith, omega (arith, z.requires.0), z.requires.1, z.requires.2)

pub add-total-requires : goal.add-total-requires
add-total-requires c = let z = c in
    let l = c.loop-i in
    let e = c.constant_counts-one.ensures in
    (omega (arith, l.invariant.few-instances, z.requires.0, e.small.0), omega (arith, l.invariant.few-literals, z.requires.0, e.small.1))

pub loop-i-preserved : goal.loop-i-preserved
loop-i-preserved c = let z = c in
    let l = c.loop-i in
    let b = c.constant_counts-one in
    let e = b.ensures in
    one-constant z.args.size.0 l.i l.total b.result c.add-total.result l.invariant e.instances e.literals e.small.0 e.small.1 c.add-total.ensures.0 c.add-total.ensures.1

pub returns : goal.returns
returns c = let z = c in
    let l = c.loop-i in
    let e : l.i ≡ z.args.n = omega arith in
    subst (λ (k : ℕ). ConstantsTotal z.args.size.0 k l.total) e l.invariant
