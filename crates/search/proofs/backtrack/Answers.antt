use Rattle.search.proofs.Returning.{level-turn, backing-turn, backing-stop}
use Rattle.search.proofs.backtrack.Goals as goal

pub returns-then-top-eq1 : goal.returns-then-top-eq1
returns-then-top-eq1 c cs k =
    backing-stop _ _ _ _ _ _ _ _ (c.loop-place.invariant.0 cs k) c.loop-place-test.true _ _ c.pop-level.ensures.pops _ c.negated.ensures _ c.push.ensures c.if-top-eq1.true
    (level-turn _ _ _ _ c.loop-place-test.true c.loop-place.invariant.1 c.pop-level.ensures.lowered)

pub loop-place-preserved : goal.loop-place-preserved
loop-place-preserved c = (
  λ cs k. backing-turn _ _ _ _ _ _ _ _ (c.loop-place.invariant.0 cs k) c.loop-place-test.true _ _ c.pop-level.ensures.pops c.if-top-eq1.false,
  level-turn _ _ _ _ c.loop-place-test.true c.loop-place.invariant.1 c.pop-level.ensures.lowered,
)
