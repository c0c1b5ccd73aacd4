use Rattle.printing.proofs.Results.{found-responds, none-responds, stopped-responds, refused-responds}
use Rattle.printing.proofs.report.put_result.Goals as goal

pub returns-in-Ok-Found : goal.returns-in-Ok-Found
returns-in-Ok-Found c s = let a = c.in-Ok-Found in
    let is = rw a.is at a.field-0-is in
    found-responds c.args.out.now c.args.answer s _ _ _ _ _ (rw is at a.is) c.put_found.ensures

pub returns-in-Ok-Nothing : goal.returns-in-Ok-Nothing
returns-in-Ok-Nothing c s = let a = c.in-Ok-Nothing in
    let is = rw a.is at a.field-0-is in
    none-responds c.args.out.now c.args.answer s _ _ _ _ (rw is at a.is) c.put_none.ensures

pub returns-in-Ok-Stopped : goal.returns-in-Ok-Stopped
returns-in-Ok-Stopped c s = let a = c.in-Ok-Stopped in
    let is = rw a.is at a.field-0-is in
    stopped-responds c.args.out.now c.args.answer s _ _ _ _ (rw is at a.is) c.put_stopped.ensures

pub returns-in-Err : goal.returns-in-Err
returns-in-Err c s =
    refused-responds c.args.out.now c.args.answer s _ _ _ c.in-Err.is (rw c.number.ensures at c.put_refusal.ensures)
