-- `judge_case` meets its contract: the sheet's refusals, the case's, the verdict.
use borrow.Author.Rules.{rules}
use mathlib.Core.Path.{sym, ap, ◌∙◌}
use Rattle.std.proofs.lemmas.Result.{err_from_is_err_and}
use Rattle.theory.specs.Refusals.{answer}
use Rattle.judging.proofs.Verdicts.{model-told}
use Rattle.judging.proofs.CasesRead.{judge-sheet-refused, judge-case-refused, case-judged, cells-lent}
use Rattle.judging.proofs.verdict.judge_case.Goals as goal

pub returns-in_err-p : goal.returns-in_err-p
returns-in_err-p c = let a = c.args in
    let p = err_from_is_err_and c.from_residual.result c.from_residual.ensures.1 in
    rw (p.1, p.2) (sym (judge-sheet-refused a.sheet.now a.case.now _ c.in_err-p.ensures.refused))

pub returns-in_err-size : goal.returns-in_err-size
returns-in_err-size c = let a = c.args in
    let p = err_from_is_err_and c.from_residual-in_err-size.result c.from_residual-in_err-size.ensures.1 in
    rw (p.1, p.2) (sym (judge-case-refused a.sheet.now a.case.now c.in_ok-p.p c.in_ok-p.ensures.read _ c.in_err-size.ensures.refused))

pub case_failure-requires : goal.case_failure-requires
case_failure-requires c = let a = c.args in
    cells-lent a.sheet.now a.case.now c.in_ok-p.p c.in_ok-p.ensures.read _ c.open_case.new.cells c.in_ok-size.ensures.read c.in_ok-p.ensures.accepted (search rules)

pub returns : goal.returns
returns c = let a = c.args in
    let f = c.case_failure in
    ap answer (model-told _ _ _ _ f.result f.ensures c.is_none.result c.is_none.ensures)
    ∙ sym (case-judged a.sheet.now a.case.now c.in_ok-p.p c.in_ok-p.ensures.read _ c.open_case.new.cells c.in_ok-size.ensures.read)
