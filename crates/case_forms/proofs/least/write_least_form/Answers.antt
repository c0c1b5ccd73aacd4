-- `write_least_form` meets its contract: the sheet's refusals, the case's, then what is left of its cells.
use borrow.Author.Rules.{rules}
use mathlib.Core.Path.{refl}
use lib.ListN.{length}
use Rattle.std.proofs.lemmas.Result.{err_from_is_err_and}
use Rattle.answers.proofs.Answering.{refuses, answers-as}
use Rattle.case_forms.proofs.Answered.{sheet-refusal-least, case-refusal-least, case-held, cells-left-least}
use Rattle.case_forms.proofs.least.write_least_form.Goals as goal

pub returns-in_err-p : goal.returns-in_err-p
returns-in_err-p c = let a = c.args in
    let p = err_from_is_err_and c.from_residual.result c.from_residual.ensures.1 in
    rw (p.1, p.2) (refuses _ _ _ a.output.now (sheet-refusal-least a.sheet.now a.case.now (length a.output.now) _ c.in_err-p.ensures.refused) refl)

pub returns-in_err-size : goal.returns-in_err-size
returns-in_err-size c = let a = c.args in
    let k = c.in_ok-p in
    let p = err_from_is_err_and c.from_residual-in_err-size.result c.from_residual-in_err-size.ensures.1 in
    rw (p.1, p.2) (refuses _ _ _ a.output.now (case-refusal-least a.sheet.now a.case.now (length a.output.now) k.p k.ensures.read _ c.in_err-size.ensures.refused) refl)

pub write_least-requires : goal.write_least-requires
write_least-requires c = let a = c.args in
    let k = c.in_ok-p in
    case-held a.sheet.now a.case.now (length a.output.now) k.p k.ensures.read _ c.open_case.new.cells c.in_ok-size.ensures.read k.ensures.accepted.readable (search rules)

pub returns : goal.returns
returns c = let a = c.args in
    let k = c.in_ok-p in
    answers-as _ _ _ _ _
    (cells-left-least a.sheet.now a.case.now (length a.output.now) k.p k.ensures.read _ c.open_case.new.cells c.in_ok-size.ensures.read)
    c.write_least.ensures
