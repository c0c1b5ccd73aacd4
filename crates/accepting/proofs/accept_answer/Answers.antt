-- `accept_answer`: the sheet's refusals, 8, then what comes of the text.
use mathlib.Core.Path.{refl, sym, ◌∙◌}
use borrow.Author.Rules.{rules}
use lib.ListN.{length}
use Rattle.std.proofs.lemmas.Result.{err_from_is_err_and}
use Rattle.theory.specs.Refusals.{unplaced}
use Rattle.accepting.proofs.Outcomes.{same_outcome, refuses}
use Rattle.accepting.proofs.Chain.{sheet-refusal, size-refusal, sized-problem, reply-left}
use Rattle.accepting.proofs.accept_answer.Goals as goal

pub returns-in_err-p : goal.returns-in_err-p
returns-in_err-p c = let a = c.args in
    let p = err_from_is_err_and c.from_residual.result c.from_residual.ensures.1 in
    rw (p.1, p.2) (refuses _ _ _ a.output.now (sheet-refusal a.sheet.now a.size a.text.now (length a.output.now) _ c.in_err-p.ensures.refused) refl)

pub accept_reply-requires : goal.accept_reply-requires
accept_reply-requires c = let a = c.args in
    let k = c.in_ok-p in
    sized-problem a.sheet.now k.p k.ensures.read a.size c.in-Some.s (sym c.checked.ensures ∙ c.in-Some.is) k.ensures.accepted

pub returns-in_default : goal.returns-in_default
returns-in_default c = let a = c.args in
    let k = c.in_ok-p in
    refuses _ (unplaced 8) c.at_line.result a.output.now
    (size-refusal a.sheet.now k.p k.ensures.read a.size a.text.now (length a.output.now) (search rules)) c.at_line.ensures

pub returns : goal.returns
returns c = let a = c.args in
    let k = c.in_ok-p in
    let p = c.accept_reply in
    same_outcome _ _ p.result a.output.now _ (reply-left a.sheet.now k.p k.ensures.read a.size c.in-Some.s (sym c.checked.ensures ∙ c.in-Some.is) a.text.now (length a.output.now)) p.ensures
