use Rattle.propagation.proofs.Turns.{going_start, going-turn, going-stop, going_done}
use Rattle.propagation.proofs.propagate.Goals as goal

pub loop-head-init : goal.loop-head-init
loop-head-init c cs held = going_start _ _ _ _ _ held

pub loop-head-preserved : goal.loop-head-preserved
loop-head-preserved c cs held = going-turn _ _ _ _ _ _ _ _ (c.loop-head.invariant cs held) c.loop-head-test.true _ _ c.in-Ok.ensures

pub returns-in-Err : goal.returns-in-Err
returns-in-Err c cs held calm = going-stop _ _ _ _ _ _ _ _ (c.loop-head.invariant cs held) c.loop-head-test.true _ _ c.in-Err.ensures calm

pub returns : goal.returns
returns c cs held calm = going_done _ _ _ _ _ _ _ _ (c.loop-head.invariant cs held) c.loop-head-test.false calm
