-- `word_at` answers the part up to where `word_end` ends the word.
use Rattle.word_reader.proofs.Cutting.{first_word}
use Rattle.word_reader.proofs.word_at.Goals as goal

pub returns : goal.returns
returns c = let a = c.args in first_word a.line.now a.at c.word_end-end.result c.word_end-end.ensures
