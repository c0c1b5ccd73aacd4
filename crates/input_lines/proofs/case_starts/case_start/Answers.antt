use mathlib.Core.Path.{◌≡◌, sym, ap, ◌∙◌}
use lib.ListN.{length}
use native.Mathlib.Omega.{arith}
use Rattle.theory.specs.Explainer.{case_here}
use Rattle.input_lines.proofs.LentRest.{rest}
use Rattle.input_lines.proofs.CaseStarts.{unstarted, starts, goes_on, never}
use Rattle.input_lines.proofs.case_starts.case_start.Goals as goal

pub loop-i-init : goal.loop-i-init
loop-i-init c = unstarted _

pub returns-then-case_here : goal.returns-then-case_here
returns-then-case_here c = let a = c.args in
    let l = c.loop-i in
    let here = ap (case_here l.fresh) (sym (rest a.input.now l.i l.invariant.within)) ∙ sym c.case_here.ensures ∙ c.if-case_here.true in
    starts a.input.now l.i l.fresh l.invariant (omega arith) here

pub loop-i-preserved : goal.loop-i-preserved
loop-i-preserved c = let a = c.args in
    let l = c.loop-i in
    let here = ap (case_here l.fresh) (sym (rest a.input.now l.i l.invariant.within)) ∙ sym c.case_here.ensures ∙ c.if-case_here.false in
    goes_on a.input.now l.i l.fresh l.invariant (omega arith) here

pub returns : goal.returns
returns c = let l = c.loop-i in
    let e : l.i ≡ length c.args.input.now = omega arith in
    sym e ∙ never c.args.input.now l.i l.fresh l.invariant (omega arith)
