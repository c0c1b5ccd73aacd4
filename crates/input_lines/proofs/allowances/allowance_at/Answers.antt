-- `allowance_at` meets its contract: the number that the value is, or none.
use Rattle.input_lines.proofs.AllowanceLines.{no_value, value}
use Rattle.input_lines.proofs.allowances.allowance_at.Goals as goal

pub returns-in_err-n : goal.returns-in_err-n
returns-in_err-n c = let z = c in
    let r = c.allowance_of in
    rw c.from_residual.ensures (no_value z.args.input.now z.args.from z.args.end z.requires.1 r.result r.ensures c.in_err-n.was)

pub returns : goal.returns
returns c = let z = c in
    let r = c.allowance_of in
    value z.args.input.now z.args.from z.args.end z.requires.1 r.result r.ensures _ c.in_ok-n.was
