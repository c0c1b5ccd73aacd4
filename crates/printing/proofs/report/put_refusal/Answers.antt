use Prim.Native.Nat.{◌<◌}
use native.Mathlib.Omega.{arith}
use Rattle.printing.proofs.Printing.{reason-short, line-short, column-short, refusal}
use Rattle.printing.proofs.report.put_refusal.Goals as goal

pub put_field-b-requires : goal.put_field-b-requires
put_field-b-requires c = let a = c.put_field-a in
    omega (arith, a.ensures.place, a.auto.out, reason-short c.from.result (omega arith))

pub put_field-c-requires : goal.put_field-c-requires
put_field-c-requires c = let a = c.put_field-a in
    let b = c.put_field-b in
    omega (arith, a.ensures.place, b.ensures.place, a.auto.out, b.auto.out, reason-short c.from.result (omega arith), line-short c.args.line (omega arith))

pub bounds-out-c : goal.bounds-out-c
bounds-out-c c = let a = c.put_field-a in
    let b = c.put_field-b in
    let d = c.put_field-c in
    omega
    (arith, a.ensures.place, b.ensures.place, d.ensures.place, a.auto.out, b.auto.out, d.auto.out, reason-short c.from.result (omega arith), line-short c.args.line (omega arith), column-short c.args.column (omega arith))

pub overflow_add-result : goal.overflow_add-result
overflow_add-result c =
    omega
    (arith, c.put_field-a.ensures.place, c.put_field-b.ensures.place, c.put_field-c.ensures.place, reason-short c.from.result (omega arith), line-short c.args.line (omega arith), column-short c.args.column (omega arith))

pub returns : goal.returns
returns c = let z = c in
    let a = c.put_field-a in
    let b = c.put_field-b in
    let d = c.put_field-c in
    let n : z.args.number < 256 = omega arith in
    refusal z.args.out.now a.new.out b.new.out d.new.out a.result b.result d.result z.args.number z.args.line z.args.column
    n (omega arith) (omega arith) (omega arith) (rw z.from.ensures at a.ensures.written) (rw z.from.ensures at a.ensures.place) b.ensures.written b.ensures.place d.ensures.written d.ensures.place
