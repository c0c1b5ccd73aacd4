-- `symbol_line_length` meets its contract.
use native.Mathlib.Omega.{arith}
use Rattle.theory.specs.SheetText.{symbol_text}
use Rattle.syntax.specs.Signatures.{symbol_in}
use Rattle.syntax.proofs.NamesLent.{name-length}
use Rattle.sheet_text.proofs.LinesWritten.{line-length, symbol-length}
use Rattle.sheet_text.proofs.lines.symbol_line_length.Goals as goal

pub returns : goal.returns
returns c = let a = c.args in record { length = λ text h. omega (arith, line-length a.key.now (symbol_text (symbol_in text a.symbol)), symbol-length text a.symbol, name-length text a.symbol h.within); short = omega arith }
