-- `with_named` goes by what is named.
use Rattle.importing.proofs.words.with_named.Goals as goal

pub returns-in-Variable : goal.returns-in-Variable
returns-in-Variable c = λ a. rw c.in-Variable.is c.with_variable.ensures

pub returns-in-Symbol : goal.returns-in-Symbol
returns-in-Symbol c = λ a. rw c.in-Symbol.is (c.with_symbol.ensures c.in-Symbol.field-0 a)
