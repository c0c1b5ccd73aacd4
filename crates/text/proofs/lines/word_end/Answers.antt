use Rattle.text.proofs.Ends.{word-to}
use Rattle.text.proofs.lines.word_end.Goals as goal

pub returns : goal.returns
returns c = word-to _ _ _ c.byte_end.ensures
