use Rattle.printing.proofs.Explained.{no-printable, no-responds, refused-responds}
use Rattle.printing.proofs.reasons.put_explained.Goals as goal

pub put_reason-requires : goal.put_reason-requires
put_reason-requires c = let a = c.in-Ok-Some in
    let is = rw a.is at a.field-0-is in
    (c.requires.room, (no-printable c.args.answer c.args.out.now c.requires a.reason (rw is at a.is)).0)

pub returns-in-Ok-Some : goal.returns-in-Ok-Some
returns-in-Ok-Some c s = let a = c.in-Ok-Some in
    let is = rw a.is at a.field-0-is in
    let p = no-printable c.args.answer c.args.out.now s a.reason (rw is at a.is) in
    no-responds c.args.answer c.args.out.now s p.0.reason _ _ p.1 (c.put_reason.ensures p.0)

pub returns-in-Err : goal.returns-in-Err
returns-in-Err c s =
    refused-responds c.args.answer c.args.out.now s c.in-Err.r _ _ c.in-Err.is (rw c.number.ensures at c.put_refusal.ensures)
