-- `none` meets its contract.
use Rattle.declaring.proofs.Tables.{none-tabled, none-table}
use Rattle.declaring.proofs.symbols.none.Goals as goal

pub returns : goal.returns
returns c = record { limited = λ text. none-tabled text _ c.empty.ensures; empty = λ text. none-table text _ c.empty.ensures }
