use native.Mathlib.Omega.{arith}
use Rattle.columns.proofs.LinesDue.{due-first, due-second, due-function, due-predicate-count, due-predicate, due-clause-count, due-words, due-nothing}
use Rattle.columns.proofs.due.due_in_sheet.Goals as goal

-- `due_in_sheet` compares the line with the counts.
pub returns-then-l-eq0 : goal.returns-then-l-eq0
returns-then-l-eq0 c = due-first _ _ c.if-l-eq0.true

pub returns-then-l-eq1 : goal.returns-then-l-eq1
returns-then-l-eq1 c = due-second _ _ c.if-l-eq1.true

pub returns-then-l-predicates : goal.returns-then-l-predicates
returns-then-l-predicates c = let a = c.args in due-function a.sheet.now a.l c.count_on-predicates.result c.count_on-predicates.ensures.count c.if-l-eq0.false c.if-l-eq1.false c.if-l-predicates.true

pub returns-then-l-predicates-2 : goal.returns-then-l-predicates-2
returns-then-l-predicates-2 c = let a = c.args in due-predicate-count a.sheet.now a.l c.count_on-predicates.result c.count_on-predicates.ensures.count c.if-l-predicates-2.true

pub returns-then-l-clauses : goal.returns-then-l-clauses
returns-then-l-clauses c = let a = c.args in due-predicate a.sheet.now a.l c.count_on-predicates.result c.count_on-predicates.ensures.count c.count_on.result c.count_on.ensures.count (omega arith) c.if-l-clauses.true

pub returns-then-l-clauses-2 : goal.returns-then-l-clauses-2
returns-then-l-clauses-2 c = let a = c.args in due-clause-count a.sheet.now a.l c.count_on-predicates.result c.count_on-predicates.ensures.count c.count_on.result c.count_on.ensures.count c.if-l-clauses-2.true

pub returns-then-l-clauses-3 : goal.returns-then-l-clauses-3
returns-then-l-clauses-3 c = let a = c.args in
    due-words a.sheet.now a.l c.count_on-predicates.result c.count_on-predicates.ensures.count c.count_on.result c.count_on.ensures.count c.count_on-2.result c.count_on-2.ensures.count (omega arith) c.if-l-clauses-3.true

pub returns : goal.returns
returns c = let a = c.args in
    due-nothing a.sheet.now a.l c.count_on-predicates.result c.count_on-predicates.ensures.count c.count_on.result c.count_on.ensures.count c.count_on-2.result c.count_on-2.ensures.count (omega arith)
