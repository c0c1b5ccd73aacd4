use mathlib.Core.Path.{◌≡◌, subst}
use Prim.Native.Nat.{ℕ, ◌+◌, ◌*◌}
use native.Mathlib.Omega.{arith}
use lib.ListN.{length}
use Rattle.loading.specs.Filling.{EmptyBlocks}
use Rattle.loading.proofs.Bounding.{bounding-done, sum_fits, tallied-sum, bounded-filling}
use Rattle.loading.proofs.bounds.Goals as goal

pub overflow_add-start-in-loop-literal : goal.overflow_add-start-in-loop-literal
overflow_add-start-in-loop-literal c =
    let fits = sum_fits _ _ _ _ _ _ c.loop-literal.invariant (omega (arith, c.requires.room)) c.loop-literal-test.true in
    record { fits = omega (arith, fits, tallied-sum _ _ _ c.requires.tallied, c.requires.fits, c.requires.number) }

pub returns : goal.returns
returns c cs t n =
    let a = c.args in
    let e : 7 * a.v + a.m ≡ 7 * a.v + length cs = omega (arith, n) in
    let b = bounding-done _ _ _ _ _ _ c.loop-literal.invariant c.loop-literal-test.false in
    bounded-filling a.v cs a.work.now _ t (subst (λ (k : ℕ). EmptyBlocks a.v k a.work.now c.loop-literal.work) e b) c.requires.small
    (omega (arith, n, tallied-sum _ _ _ c.requires.tallied, c.requires.room, c.requires.number))
