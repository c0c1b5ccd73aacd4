use native.Mathlib.Omega.{arith}
use Rattle.loading.proofs.Tallying.{tallying-start, tallying-turn, count_fits}
use Rattle.loading.proofs.tally.Goals as goal

pub loop-literal-init : goal.loop-literal-init
loop-literal-init c = tallying-start c.args.v c.args.clause.now c.args.work.now

pub overflow_add-work-in-loop-literal-2 : goal.overflow_add-work-in-loop-literal-2
overflow_add-work-in-loop-literal-2 c =
    record {
      fits = omega (arith, count_fits _ _ _ _ _ c.loop-literal-test.true c.requires.range (omega (arith, c.requires.room)) c.requires.seen c.requires.tallied c.loop-literal.invariant, c.requires.fits);
    }

pub loop-literal-preserved : goal.loop-literal-preserved
loop-literal-preserved c = tallying-turn _ _ _ _ _ c.loop-literal-test.true c.requires.range (omega (arith, c.requires.room)) c.loop-literal.invariant
