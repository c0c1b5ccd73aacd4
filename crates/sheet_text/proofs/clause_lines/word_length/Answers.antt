-- `word_length` meets its contract.
use Rattle.sheet_text.proofs.Symbols.{short-at}
use Rattle.sheet_text.proofs.WordTexts.{name-word-length, byte-word-length}
use native.Mathlib.Omega.{arith}
use Rattle.sheet_text.proofs.clause_lines.word_length.Goals as goal

pub returns-then-place-signature : goal.returns-then-place-signature
returns-then-place-signature c = let a = c.args in record { length = λ text h. name-word-length text a.signature a.code h c.if-place-signature.true; short = short-at a.signature c.requires a.code c.if-place-signature.true }

pub returns : goal.returns
returns c = let a = c.args in record { length = λ text h. byte-word-length text a.signature a.code h c.if-place-signature.false; short = omega arith }
