use borrow.Author.Rules.{rules}
use mathlib.Core.Path.{refl}
use Rattle.replies.proofs.LinesHeard.{begins, unended, one_more, ends}
use Rattle.replies.proofs.lines.hear_lines.Goals as goal

pub loop-at-init : goal.loop-at-init
loop-at-init c = (begins _ _ _ refl, refl)

pub returns-then-end-text : goal.returns-then-end-text
returns-then-end-text c = let l = c.loop-at in unended _ _ l.stage l.marks l.at _ l.invariant.0 c.loop-at-test.true c.line_end-end.ensures c.if-end-text.true

pub loop-at-preserved : goal.loop-at-preserved
loop-at-preserved c = let l = c.loop-at in
    (one_more _ _ l.stage l.marks l.at _ l.invariant.0 c.loop-at-test.true c.line_end-end.ensures c.if-end-text.false _ _ c.hear_line-stage.ensures, search rules)

pub returns : goal.returns
returns c = let l = c.loop-at in ends _ _ l.stage l.marks l.at l.invariant.0 c.loop-at-test.false
