-- `line_at` finds where the line starts and where it ends.
use Rattle.columns.proofs.LineWalk.{line-there}
use Rattle.columns.proofs.lines.line_at.Goals as goal

pub returns : goal.returns
returns c = line-there _ _ c.line_start-from.result c.line_end.result c.line_start-from.ensures c.line_end.ensures
