-- `good_bytes` goes by the kind of line.
use mathlib.Core.Path.{sym, ap, ◌∙◌}
use Rattle.theory.specs.LineForms.{good_bytes}
use Rattle.columns.specs.declared.due.SheetLine.{SheetLine}
use Rattle.columns.specs.Due.{form_of}
use Rattle.columns.proofs.good.good_bytes.Goals as goal

pub returns-in-Heading : goal.returns-in-Heading
returns-in-Heading c = c.good_key.ensures ∙ ap (λ (d : SheetLine). good_bytes (form_of d) c.args.line.now) (sym c.in-Heading.is)

pub returns-in-FunctionCount : goal.returns-in-FunctionCount
returns-in-FunctionCount c = c.good_count.ensures ∙ ap (λ (d : SheetLine). good_bytes (form_of d) c.args.line.now) (sym c.in-FunctionCount.is)

pub returns-in-Function : goal.returns-in-Function
returns-in-Function c = c.good_value.ensures.declared ∙ ap (λ (d : SheetLine). good_bytes (form_of d) c.args.line.now) (sym c.in-Function.is)

pub returns-in-PredicateCount : goal.returns-in-PredicateCount
returns-in-PredicateCount c = c.good_count-in-PredicateCount.ensures ∙ ap (λ (d : SheetLine). good_bytes (form_of d) c.args.line.now) (sym c.in-PredicateCount.is)

pub returns-in-Predicate : goal.returns-in-Predicate
returns-in-Predicate c = c.good_value-in-Predicate.ensures.declared ∙ ap (λ (d : SheetLine). good_bytes (form_of d) c.args.line.now) (sym c.in-Predicate.is)

pub returns-in-ClauseCount : goal.returns-in-ClauseCount
returns-in-ClauseCount c = c.good_count-in-ClauseCount.ensures ∙ ap (λ (d : SheetLine). good_bytes (form_of d) c.args.line.now) (sym c.in-ClauseCount.is)

pub returns-in-Clause : goal.returns-in-Clause
returns-in-Clause c = c.good_value-in-Clause.ensures.words ∙ ap (λ (d : SheetLine). good_bytes (form_of d) c.args.line.now) (sym c.in-Clause.is)

pub returns-in-End : goal.returns-in-End
returns-in-End c = ap (λ (d : SheetLine). good_bytes (form_of d) c.args.line.now) (sym c.in-End.is)
