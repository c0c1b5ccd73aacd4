use native.Mathlib.Omega.{arith}
use mathlib.Core.Path.{◌∙◌}
use lib.ListN.{length-set}
use Rattle.theory.specs.Bytes.{decimal}
use Rattle.sheet_text.proofs.LinesWritten.{line-length, line-written}
use Rattle.sheet_text.proofs.lines.put_count_line.Goals as goal

-- `put_count_line` meets its contract.
pub put_bytes-from-requires : goal.put_bytes-from-requires
put_bytes-from-requires c = let z = c in
    omega (arith, z.requires, line-length z.args.key.now (decimal z.args.n))

pub put_number-end-requires : goal.put_number-end-requires
put_number-end-requires c = let z = c in
    let p = c.put_bytes-from in
    omega (arith, z.requires, p.ensures.place, p.auto.out, line-length z.args.key.now (decimal z.args.n))

pub bounds-out-end : goal.bounds-out-end
bounds-out-end c = let z = c in
    let p = c.put_bytes-from in
    let q = c.put_number-end in
    omega (arith, z.requires, p.ensures.place, p.auto.out, q.ensures.place, q.auto.out, line-length z.args.key.now (decimal z.args.n))

pub overflow_add-result : goal.overflow_add-result
overflow_add-result c = let z = c in
    let p = c.put_bytes-from in
    let q = c.put_number-end in
    omega (arith, z.well_formed, z.requires, p.ensures.place, q.ensures.place, line-length z.args.key.now (decimal z.args.n))

pub shape_of-out : goal.shape_of-out
shape_of-out c = let p = c.put_bytes-from in
    let q = c.put_number-end in
    simp length-set (q.auto.out ∙ p.auto.out)

pub returns : goal.returns
returns c = let z = c in
    let p = c.put_bytes-from in
    let q = c.put_number-end in let both = line-written z.args.out.now p.new.out q.new.out z.args.at p.result q.result z.args.key.now (decimal z.args.n) p.ensures.written p.ensures.place q.ensures.written q.ensures.place z.requires in record { written = both.0; place = both.1 }
