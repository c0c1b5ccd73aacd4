-- The form of a line of a sheet.
use Rattle.theory.specs.Bytes.{bytes}
use Rattle.theory.specs.LineForms.{no_bytes, count_digits, declaration, any_words, LineForm, keyed, no_line}
use Rattle.columns.specs.declared.due.SheetLine.{SheetLine}
use Rattle.columns.specs.declared.due.SheetLine.TheVariants.{Heading, FunctionCount, Function, PredicateCount, Predicate, ClauseCount, Clause, End}

-- what is due
abbrev pub form_of : SheetLine → LineForm
form_of Heading = keyed (bytes "sheet=1") no_bytes
form_of FunctionCount = keyed (bytes "funs=") count_digits
form_of Function = keyed (bytes "fun=") declaration
form_of PredicateCount = keyed (bytes "preds=") count_digits
form_of Predicate = keyed (bytes "pred=") declaration
form_of ClauseCount = keyed (bytes "clauses=") count_digits
form_of Clause = keyed (bytes "clause=") any_words
form_of End = no_line
