-- `put_stopped` meets its contract: a field, then LF.
use native.Mathlib.Omega.{arith}
use Rattle.printing.proofs.Printing.{stopped-short, stopped-size}
use Rattle.printing.proofs.report.put_stopped.Goals as goal

pub bounds-out-at : goal.bounds-out-at
bounds-out-at c = let z = c in
    let a = c.put_field-at in
    omega (arith, z.requires.0, a.ensures.place, a.auto.out, stopped-short z.args.size z.requires.1)

pub overflow_add-result : goal.overflow_add-result
overflow_add-result c = let z = c in
    let a = c.put_field-at in
    omega (arith, a.ensures.place, stopped-short z.args.size z.requires.1)

pub returns : goal.returns
returns c = let z = c in
    let a = c.put_field-at in
    stopped-size z.args.out.now a.new.out a.result z.args.size z.requires.1 z.requires.0 a.ensures.written a.ensures.place
