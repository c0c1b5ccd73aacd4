-- `size_on` looks at the second line.
use Rattle.columns.proofs.CaseLines.{sized_on}
use Rattle.columns.proofs.case.size_on.Goals as goal

pub returns : goal.returns
returns c = record { size = sized_on c.args.case.now c.size_behind.result c.line_at-there.result c.line_at-there.ensures c.size_behind.ensures.size; small = c.size_behind.ensures.small }
