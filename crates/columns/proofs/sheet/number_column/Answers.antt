-- `number_column` tells the arity or the count.
use mathlib.Core.Path.{refl, sym, ◌∙◌}
use Rattle.columns.specs.Due.{form_of}
use Rattle.columns.proofs.LineColumns.{arity-column, count-column}
use Rattle.columns.proofs.sheet.number_column.Goals as goal

pub returns-then-is_declaration : goal.returns-then-is_declaration
returns-then-is_declaration c = λ g. c.arity_column.ensures ∙ arity-column g (form_of c.args.due) c.args.line.now 3 refl (sym c.is_declaration.ensures ∙ c.if-is_declaration.true)

pub returns : goal.returns
returns c = λ g. count-column g (form_of c.args.due) c.args.line.now 3 c.key_length.result refl (sym c.is_declaration.ensures ∙ c.if-is_declaration.false) c.key_length.ensures
