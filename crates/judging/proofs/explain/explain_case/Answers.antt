-- `explain_case` meets its contract: the sheet's refusals, the case's, the reason.
use borrow.Author.Rules.{rules}
use Rattle.std.proofs.lemmas.Result.{err_from_is_err_and}
use Rattle.answers.proofs.Reasons.{refuses-reason}
use Rattle.judging.proofs.CasesRead.{explain-sheet-refused, explain-case-refused, case-explained, cells-lent}
use Rattle.judging.proofs.ReasonsGiven.{failure-held, reasoned}
use Rattle.judging.proofs.explain.explain_case.Goals as goal

pub returns-in_err-p : goal.returns-in_err-p
returns-in_err-p c = let a = c.args in
    let p = err_from_is_err_and c.from_residual.result c.from_residual.ensures.1 in
    rw (p.1, p.2) (refuses-reason _ _ (explain-sheet-refused a.sheet.now a.case.now _ c.in_err-p.ensures.refused))

pub returns-in_err-size : goal.returns-in_err-size
returns-in_err-size c = let a = c.args in
    let p = err_from_is_err_and c.from_residual-in_err-size.result c.from_residual-in_err-size.ensures.1 in
    rw (p.1, p.2) (refuses-reason _ _ (explain-case-refused a.sheet.now a.case.now c.in_ok-p.p c.in_ok-p.ensures.read _ c.in_err-size.ensures.refused))

pub case_failure-requires : goal.case_failure-requires
case_failure-requires c = let a = c.args in
    cells-lent a.sheet.now a.case.now c.in_ok-p.p c.in_ok-p.ensures.read _ c.open_case.new.cells c.in_ok-size.ensures.read c.in_ok-p.ensures.accepted (search rules)

pub map-requires : goal.map-requires
map-requires c = let a = c.args in
    let k = c.in_ok-p in
    let f = c.case_failure in
    let lent = cells-lent a.sheet.now a.case.now k.p k.ensures.read _ c.open_case.new.cells c.in_ok-size.ensures.read k.ensures.accepted (search rules) in
    λ x t.
    let held = failure-held _ _ _ _ f.result f.ensures lent x t in
    search (rules, held)

pub returns : goal.returns
returns c = let a = c.args in
    let k = c.in_ok-p in
    let f = c.case_failure in
    let lent = cells-lent a.sheet.now a.case.now k.p k.ensures.read _ c.open_case.new.cells c.in_ok-size.ensures.read k.ensures.accepted (search rules) in
    rw (case-explained a.sheet.now a.case.now k.p k.ensures.read _ c.open_case.new.cells c.in_ok-size.ensures.read)
    (reasoned _ _ _ _ f.result f.ensures lent _ (λ x q h. search rules) c.map.result c.map.ensures.cases)
