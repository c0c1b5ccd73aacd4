use Prim.Native.Nat.{◌+◌}
use mathlib.Core.Path.{refl}
use native.Mathlib.Omega.{arith}
use lib.ListN.{get_or}
use Rattle.twins.specs.Constants.{marked_at, held_bases}
use Rattle.twins.proofs.Noting.{noted_more}
use Rattle.twins.proofs.constants.constants_of.Goals as goal

pub loop-i-preserved : goal.loop-i-preserved
loop-i-preserved c = let a = c.args in
    let l = c.loop-i in (
      omega (arith, l.invariant.0, c.noted-constants.ensures.few),
      noted_more (marked_at a.signature) (λ i. get_or a.n.bases i 0) l.i (l.i + 1) c.is_constant-marked.result _ (held_bases l.constants) (held_bases c.noted-constants.result) (omega arith) c.is_constant-marked.ensures refl l.invariant.1 c.noted-constants.ensures.bases,
    )
