-- `read_counts` meets its contract: the sheet's refusals, then its counts.
use mathlib.Core.Path.{refl, sym, ap, ◌∙◌}
use Rattle.std.proofs.lemmas.Result.{err_from_is_err_and}
use Rattle.theory.specs.Refusals.{answer}
use Rattle.theory.specs.Operations.{read_answer}
use Rattle.theory.proofs.Answers.{bind-step, bind-refused}
use Rattle.columns.proofs.CasesOpened.{sheet-opened}
use Rattle.reading.proofs.Counts.{functions-within, counted}
use Rattle.reading.proofs.read_counts.Goals as goal

pub returns-in_err-p : goal.returns-in_err-p
unfolding read_answer
returns-in_err-p c = let p = err_from_is_err_and c.from_residual.result c.from_residual.ensures.1 in
    rw (p.1, p.2) (sym (bind-refused _ _ _ c.in_err-p.ensures.refused))

pub overflow_sub-result : goal.overflow_sub-result
overflow_sub-result c = functions-within c.args.sheet.now c.in_ok-p.p c.in_ok-p.ensures.accepted

pub returns : goal.returns
unfolding read_answer
returns c = let a = c.args in
    let k = c.in_ok-p in
    ap answer (counted a.sheet.now k.p k.ensures.accepted) ∙ sym (bind-step _ _ _ _ (sheet-opened a.sheet.now k.p k.ensures.read) refl)
