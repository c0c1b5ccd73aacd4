use Rattle.statements.proofs.Steps.{going_on}
use Rattle.statements.proofs.follow.follow_rest.Goals as goal

pub returns-in-Foreign : goal.returns-in-Foreign
returns-in-Foreign c = c.loop-place.invariant.foreigns _ c.in-Foreign.ensures

pub loop-place-preserved : goal.loop-place-preserved
loop-place-preserved c = let l = c.loop-place in going_on _ _ l.i _ _ _ c.in-On.ensures l.invariant
