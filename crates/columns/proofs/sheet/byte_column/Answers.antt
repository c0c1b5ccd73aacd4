-- `byte_column` goes by the fault.
use mathlib.Core.Path.{sym, ap, ◌∙◌}
use native.Mathlib.Omega.{arith}
use Rattle.theory.proofs.LineTexts.{good-within}
use Rattle.syntax.specs.declared.faults.Fault.{Fault}
use Rattle.syntax.specs.declared.faults.Fault.TheVariants as fault
use Rattle.syntax.specs.Faults.{number_of}
use Rattle.theory.specs.Columns.{line_column}
use Rattle.columns.specs.Due.{form_of}
use Rattle.columns.proofs.FaultNumbers.{same-number}
use Rattle.columns.proofs.LineColumns.{name-column, other-column}
use Rattle.columns.proofs.sheet.byte_column.Goals as goal

pub number_column-requires : goal.number_column-requires
number_column-requires c = rw (← ap number_of c.in-CountOrArity.is) c.requires

pub returns-in-CountOrArity : goal.returns-in-CountOrArity
returns-in-CountOrArity c = λ g. c.number_column.ensures g ∙ ap (λ (f : Fault). line_column g (form_of c.args.due) c.args.line.now (number_of f)) (sym c.in-CountOrArity.is)

pub returns-in-Name : goal.returns-in-Name
returns-in-Name c = λ g. name-column g (form_of c.args.due) c.args.line.now _ c.key_length.result (ap number_of c.in-Name.is) c.key_length.ensures

pub overflow_add-result-in_default : goal.overflow_add-result-in_default
overflow_add-result-in_default c = omega (arith, good-within (form_of c.args.due) c.args.line.now, c.good_bytes.ensures)

pub returns-in_default : goal.returns-in_default
returns-in_default c = λ g.
    other-column g (form_of c.args.due) c.args.line.now _ c.good_bytes.result c.requires.most (λ e. c.in_default.not-CountOrArity (same-number c.args.fault fault.CountOrArity e)) (λ e. c.in_default.not-Name (same-number c.args.fault fault.Name e)) c.good_bytes.ensures
