-- What was filled grows by what each read gave.
use Rattle.std.proofs.Common.{rules}
use Rattle.reading_input.proofs.Filled.{Consumes-more}
use Rattle.reading_input.proofs.read_full.Goals as goal

pub loop-filled-preserved : goal.loop-filled-preserved
loop-filled-preserved g c = (search rules, search rules, Consumes-more _ _ _ _ _ _ _ _ c.loop-filled.invariant.1 c.in_ok-n.ensures.within.0 c.loop-filled.invariant.2 c.in_ok-n.ensures.bytes.0)
