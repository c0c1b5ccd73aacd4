use mathlib.Core.Path.{refl}
use native.Mathlib.Omega.{arith}
use Rattle.propagation.proofs.Addresses.{first-within, changing-turn, changing-done}
use Rattle.propagation.proofs.weights.change.Goals as goal

pub loop-place-init : goal.loop-place-init
loop-place-init g c = (c.requires, λ f is. refl)

pub bounds-work-place : goal.bounds-work-place
bounds-work-place g c = omega (arith, c.loop-place.invariant.0.within)

pub bounds-work-address : goal.bounds-work-address
bounds-work-address g c = first-within _ _ _ _ _ c.loop-place.invariant.0 c.loop-place-test.true

pub f-requires : goal.f-requires
f-requires g c = c.loop-place.invariant.0.right c.loop-place.place (omega arith) (omega arith)

pub bounds-work-address-in-loop-place : goal.bounds-work-address-in-loop-place
bounds-work-address-in-loop-place g c = first-within _ _ _ _ _ c.loop-place.invariant.0 c.loop-place-test.true

pub loop-place-preserved : goal.loop-place-preserved
loop-place-preserved g c = changing-turn _ _ _ _ _ _ _ c.loop-place.invariant _ c.loop-place-test.true c.f.ensures

pub returns : goal.returns
returns g c = changing-done _ _ _ _ _ _ _ c.loop-place.invariant c.loop-place-test.false
