use Rattle.shortening.proofs.LineWords.{next_word}
use Rattle.shortening.proofs.line.next_word.Goals as goal

pub returns : goal.returns
returns c = let z = c in
    let a = z.args in
    next_word a.sheet.now a.at a.to c.word_end.result z.requires.1.0 z.requires.1.1 c.word_end.ensures _ _ c.code_of.ensures
