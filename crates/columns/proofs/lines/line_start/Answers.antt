use Rattle.columns.proofs.LineWalk.{line-gone, text-gone}
use Rattle.columns.proofs.lines.line_start.Goals as goal

pub returns-then-end-text : goal.returns-then-end-text
returns-then-end-text c = let l = c.loop-i in text-gone _ _ l.at l._i l.invariant c.line_end-end.result c.loop-i-test.true c.line_end-end.ensures c.if-end-text.true

pub loop-i-preserved : goal.loop-i-preserved
loop-i-preserved c = let l = c.loop-i in line-gone _ _ l.at l._i l.invariant c.line_end-end.result c.loop-i-test.true c.line_end-end.ensures c.if-end-text.false
