-- `constant_counts` meets its contract.
use Prim.Native.Nat.{ℕ, ◌+◌, ◌-◌, ◌*◌, ◌≤◌}
use mathlib.Core.Path.{ap}
use native.Mathlib.Omega.{arith}
use Rattle.counts.proofs.Adding.{constant-few}
use Rattle.counts.proofs.constant_counts.Goals as goal

pub overflow_mul-result : goal.overflow_mul-result
overflow_mul-result c = let z = c in
    let most : c.min-most.result ≤ 8 = omega (arith, c.min-most.ensures, z.requires.3) in
    omega (arith, constant-few c.min-most.result z.args.i most z.requires.1)

pub overflow_add-result : goal.overflow_add-result
overflow_add-result c = let z = c in
    let most : c.min-most.result ≤ 8 = omega (arith, c.min-most.ensures, z.requires.3) in
    omega (arith, constant-few c.min-most.result z.args.i most z.requires.1)

pub returns : goal.returns
returns c = let z = c in
    let m = c.min-most in
    let most : m.result ≤ 8 = omega (arith, m.ensures, z.requires.3) in record { instances = m.ensures; literals = ap (λ (k : ℕ). k + (k - 1) * z.args.i) m.ensures; small = (omega (arith, most), omega (arith, most, constant-few m.result z.args.i most z.requires.1)) }
