-- `note_symbol` declares the symbol.
use Rattle.std.proofs.lemmas.Result.{err_from_is_err_and}
use Rattle.importing.proofs.NotingLoop.{symbol-noted, symbol-faulty}
use Rattle.importing.proofs.noting.note_symbol.Goals as goal

pub returns-in_err-table : goal.returns-in_err-table
returns-in_err-table c = let a = c.args in let p = err_from_is_err_and c.from_residual.result c.from_residual.ensures.1 in rw (p.1, p.2) (symbol-faulty a.text.now a.noted.table a.noted.letters a.start a.end a.function a.arity _ (rw c.in_err-table.was at c.declare.ensures))

pub returns : goal.returns
returns c = let a = c.args in symbol-noted a.text.now a.noted.table a.noted.letters a.start a.end a.function a.arity _ c.requires.1.0 (rw c.in_ok-table.was at c.declare.ensures)
