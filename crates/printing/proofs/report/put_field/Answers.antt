-- `put_field` puts a key and a number.
use native.Mathlib.Omega.{arith}
use Rattle.printing.proofs.Printing.{digits, field}
use Rattle.printing.proofs.report.put_field.Goals as goal

pub put_number-requires : goal.put_number-requires
put_number-requires c = let z = c in
    let a = c.put_bytes-from in
    omega (arith, z.requires, a.ensures.place, a.auto.out, digits z.args.n (omega (arith, z.ranges.n)))

pub returns-clause-written : goal.returns-clause-written
returns-clause-written c = let a = c.put_bytes-from in
    let b = c.put_number in
    (field c.args.out.now a.new.out b.new.out c.args.at a.result b.result c.args.key.now c.args.n a.ensures.written a.ensures.place b.ensures.written b.ensures.place
    (omega (arith, digits c.args.n (omega arith)))).0
