use Rattle.theory.specs.SheetText.{word_text}
use Rattle.syntax.specs.Signatures.{signature_in}
use Rattle.syntax.specs.Codes.{code_word}
use Rattle.sheet_text.specs.Parts.{spaced}
use Rattle.sheet_text.proofs.WordTexts.{spaced-other, spaced-written}
use Rattle.sheet_text.proofs.clause_lines.put_next_word.Goals as goal

pub returns : goal.returns
returns c = let z = c in
    let a = z.args in
    let p = c.put_word-2 in
    let w = word_text (signature_in a.text.now a.signature) (code_word a.code) in let both = spaced-written a.out.now p.new.out a.at p.result (spaced a.i w) w (spaced-other a.i w c.if-i-eq0.false) z.requires.1 p.ensures.written p.ensures.place in record { written = both.0; place = both.1 }
