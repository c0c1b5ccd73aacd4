-- `put_reason` meets its contract: the clause, then the letters.
use native.Mathlib.Omega.{arith}
use lib.ListN.{length-set}
use Rattle.printing.proofs.ReasonLines.{heading-short, reason-responds}
use Rattle.printing.proofs.reasons.put_reason.Goals as goal

pub bounds-out-at : goal.bounds-out-at
bounds-out-at c = let z = c in
    let a = c.put_field-at in
    omega (arith, z.requires.0, a.ensures.place, a.auto.out, heading-short z.args.reason z.requires.1)

pub overflow_add-at : goal.overflow_add-at
overflow_add-at c = let z = c in
    omega (arith, c.put_field-at.ensures.place, heading-short z.args.reason z.requires.1)

pub put_letters-requires : goal.put_letters-requires
put_letters-requires c = let z = c in
    let a = c.put_field-at in
    (omega (arith, z.requires.0, a.ensures.place, a.auto.out, length-set a.new.out a.result 10, heading-short z.args.reason z.requires.1), z.requires.1)

pub returns : goal.returns
returns c p = let z = c in
    let a = c.put_field-at in
    let b = c.put_letters in
    reason-responds z.args.reason p z.args.out.now a.new.out b.new.out a.result b.result z.requires.0 a.ensures.written a.ensures.place (b.ensures.written p) (b.ensures.place p)
