use mathlib.Core.Path.{sym, ◌∙◌}
use Rattle.std.proofs.lemmas.Result.{err_from_is_err_and}
use Rattle.program.proofs.Inputs.{no_low, low-said, no_high, high-said, no_switch, switch-said, no_allowance, allowance-said}
use Rattle.program.proofs.read_question.Goals as goal

pub returns-in_err-low-clause-read : goal.returns-in_err-low-clause-read
returns-in_err-low-clause-read c = let p = err_from_is_err_and c.from_residual.result c.from_residual.ensures.1 in
    rw p.1 (sym (no_low c.args.input.now _ c.digit_line.ensures c.in_err-low.ensures.ok_part))

pub returns-in_err-high-clause-read : goal.returns-in_err-high-clause-read
returns-in_err-high-clause-read c = let input = c.args.input.now in
    let p = err_from_is_err_and c.from_residual-in_err-high.result c.from_residual-in_err-high.ensures.1 in
    rw p.1
    (sym (low-said input _ c.digit_line.ensures _ _ c.in_ok-low.ensures.ok_part ∙ no_high input _ _ _ c.digit_line-2.ensures c.in_err-high.ensures.ok_part))

pub returns-in_err-symmetry-clause-read : goal.returns-in_err-symmetry-clause-read
returns-in_err-symmetry-clause-read c = let input = c.args.input.now in
    let p = err_from_is_err_and c.from_residual-in_err-symmetry.result c.from_residual-in_err-symmetry.ensures.1 in
    rw p.1
    (sym (low-said input _ c.digit_line.ensures _ _ c.in_ok-low.ensures.ok_part ∙ high-said input _ _ _ c.digit_line-2.ensures _ _ c.in_ok-high.ensures.ok_part
    ∙ no_switch input _ _ _ _ c.switch_line.ensures c.in_err-symmetry.ensures.ok_part))

pub returns-in_err-allowance-clause-read : goal.returns-in_err-allowance-clause-read
returns-in_err-allowance-clause-read c = let input = c.args.input.now in
    let p = err_from_is_err_and c.from_residual-in_err-allowance.result c.from_residual-in_err-allowance.ensures.1 in
    rw p.1
    (sym (low-said input _ c.digit_line.ensures _ _ c.in_ok-low.ensures.ok_part ∙ high-said input _ _ _ c.digit_line-2.ensures _ _ c.in_ok-high.ensures.ok_part
    ∙ switch-said input _ _ _ _ c.switch_line.ensures _ _ c.in_ok-symmetry.ensures.ok_part ∙ no_allowance input _ _ _ _ _ c.allowance_line.ensures c.in_err-allowance.ensures.ok_part))

pub returns-clause-read : goal.returns-clause-read
returns-clause-read c = let input = c.args.input.now in
    sym (low-said input _ c.digit_line.ensures _ _ c.in_ok-low.ensures.ok_part ∙ high-said input _ _ _ c.digit_line-2.ensures _ _ c.in_ok-high.ensures.ok_part
    ∙ switch-said input _ _ _ _ c.switch_line.ensures _ _ c.in_ok-symmetry.ensures.ok_part ∙ allowance-said input _ _ _ _ _ c.allowance_line.ensures _ _ c.in_ok-allowance.ensures.ok_part)
