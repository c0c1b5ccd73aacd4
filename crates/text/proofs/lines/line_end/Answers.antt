use Rattle.text.proofs.Ends.{line-to}
use Rattle.text.proofs.lines.line_end.Goals as goal

pub returns : goal.returns
returns c = line-to _ _ _ c.byte_end.ensures
