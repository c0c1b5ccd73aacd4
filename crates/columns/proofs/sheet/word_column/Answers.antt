-- `word_column` tells where the word at fault starts.
use mathlib.Core.Path.{◌≡◌, sym, ap, ◌∙◌}
use native.Mathlib.Omega.{arith}
use Rattle.syntax.specs.Faults.{number_of}
use Rattle.syntax.specs.Signatures.{signature_in}
use Rattle.theory.specs.Options.{told}
use Rattle.columns.proofs.LineColumns.{line-short, word-found, no_word}
use Rattle.columns.proofs.sheet.word_column.Goals as goal

pub returns-then-line-key : goal.returns-then-line-key
returns-then-line-key c = let z = c in let a = z.args in
    let w = z.requires.1 in
    line-short (signature_in a.sheet.now a.signature) a.line.now (number_of a.fault) w.least w.most c.key_length-key.result c.key_length-key.ensures c.wordless_column.result c.if-line-key.true c.wordless_column.ensures

pub returns-in-Some : goal.returns-in-Some
returns-in-Some c = let z = c in let a = z.args in
    let w = z.requires.1 in
    let e : told c.word_place.result ≡ _ = c.word_place.ensures.start in
    word-found (signature_in a.sheet.now a.signature) a.line.now (number_of a.fault) w.least w.most c.key_length-key.result c.key_length-key.ensures (omega arith) _ (ap told (sym c.in-Some.is) ∙ e)

pub returns-in-None : goal.returns-in-None
returns-in-None c = let z = c in let a = z.args in
    let w = z.requires.1 in
    no_word (signature_in a.sheet.now a.signature) a.line.now (number_of a.fault) w.least w.most c.key_length-key.result c.key_length-key.ensures (omega arith) c.wordless_column-in-None.result
    (ap told (sym c.in-None.is) ∙ c.word_place.ensures.start) c.wordless_column-in-None.ensures
