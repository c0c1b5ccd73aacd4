-- `case_failure` meets its contract.
use mathlib.Core.Path.{◌∙◌}
use Rattle.judging.proofs.Verdicts.{cells-held, problem-lent, cells-judged}
use Rattle.judging.proofs.failures.case_failure.Goals as goal

pub slice_bounds-first_failure-end-4 : goal.slice_bounds-first_failure-end-4
slice_bounds-first_failure-end-4 c = cells-held _ _ _ _ c.requires _ c.tables_of-t.ensures

pub first_failure-requires : goal.first_failure-requires
first_failure-requires c = problem-lent _ _ _ _ c.requires _ c.tables_of-t.ensures

pub returns : goal.returns
returns c = c.first_failure.ensures ∙ cells-judged _ _ _ _ c.requires _ c.tables_of-t.ensures
