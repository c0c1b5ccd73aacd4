-- `hear_line`: a comment changes nothing.
use mathlib.Core.Path.{◌∙◌}
use Rattle.replies.proofs.LinesHeard.{ignored, not-ignored}
use Rattle.replies.proofs.lines.hear_line.Goals as goal

pub returns-then-starts_with : goal.returns-then-starts_with
returns-then-starts_with c = let a = c.args in ignored a.line.now _ _ c.starts_with.ensures c.if-starts_with.true

pub returns : goal.returns
returns c = let a = c.args in c.hear_said.ensures ∙ not-ignored a.line.now _ _ c.starts_with.ensures c.if-starts_with.false
