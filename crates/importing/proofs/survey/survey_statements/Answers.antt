-- `survey_statements` takes one whole statement after the other, up to the first fault.
use mathlib.Core.Path.{refl, ◌∙◌}
use native.Mathlib.Omega.{arith}
use Rattle.std.proofs.lemmas.Result.{err_from_is_err_and}
use Rattle.argument_lists.proofs.KeptSlices.{kept_still, kept-on, room_kept}
use Rattle.importing.proofs.SheetLines.{short}
use Rattle.importing.proofs.Surveying.{begins, ends, foreign_next, standing, faulty, line-writable, on}
use Rattle.importing.proofs.survey.survey_statements.Goals as goal

pub loop-place-init : goal.loop-place-init
loop-place-init c = let z = c in let t = z.args.text.now in (begins t _ _ (c.none-table.ensures.limited t) (c.none-table.ensures.empty t), (refl, kept_still _))

pub returns-in-End-clause-surveyed : goal.returns-in-End-clause-surveyed
returns-in-End-clause-surveyed c = ends _ _ _ _ _ _ c.loop-place.invariant.0 (rw c.in-End.is at c.follow.ensures)

pub returns-in-Foreign-clause-surveyed : goal.returns-in-Foreign-clause-surveyed
returns-in-Foreign-clause-surveyed c = foreign_next _ _ _ _ _ _ c.loop-place.invariant.0 _ (rw c.in-Foreign.is at c.follow.ensures)

pub check_statement-requires : goal.check_statement-requires
check_statement-requires c = let w = (rw c.in-Whole.is at c.follow.ensures) in let l = c.loop-place in (standing _ _ _ _ _ _ l.invariant.0 _ _ _ w, room_kept _ _ l.invariant.1.1 c.requires)

pub returns-in_err-checked-in-Whole-clause-surveyed : goal.returns-in_err-checked-in-Whole-clause-surveyed
returns-in_err-checked-in-Whole-clause-surveyed c = let w = (rw c.in-Whole.is at c.follow.ensures) in let p = err_from_is_err_and c.from_residual.result c.from_residual.ensures.1 in rw (p.1, p.2) (faulty _ _ _ _ _ _ c.loop-place.invariant.0 _ _ _ w _ (c.in_err-checked-in-Whole.ensures.checked _ _ w))

pub add_line-length-requires : goal.add_line-length-requires
add_line-length-requires c = let w = (rw c.in-Whole.is at c.follow.ensures) in let q = c.loop-place.invariant.0 in let k = c.in_ok-checked-in-Whole.ensures.checked _ _ w in (short _ _ k.limited, (line-writable _ _ _ _ _ _ q _ _ _ w _ k, omega (arith, q.small, q.few)))

pub loop-place-preserved : goal.loop-place-preserved
loop-place-preserved c = let w = (rw c.in-Whole.is at c.follow.ensures) in let l = c.loop-place in let k = c.in_ok-checked-in-Whole.ensures.checked _ _ w in let p = c.add_line-length in (on _ _ _ _ _ _ l.invariant.0 _ _ _ w _ k _ _ p.auto.lines p.ensures.length p.ensures.short p.ensures.written, (p.auto.lines ∙ l.invariant.1.0, kept-on _ _ _ l.invariant.1.1 c.in_ok-checked-in-Whole.ensures.same_slices))
