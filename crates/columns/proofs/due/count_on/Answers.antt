-- `count_on` looks at the line.
use Rattle.columns.proofs.LinesDue.{counted-on}
use Rattle.columns.proofs.due.count_on.Goals as goal

pub returns : goal.returns
returns c = let a = c.args in record { count = counted-on a.sheet.now a.key.now a.n c.count_behind.result c.line_at-line.result c.line_at-line.ensures c.count_behind.ensures.count; small = c.count_behind.ensures.small }
