use native.Mathlib.Omega.{arith}
use mathlib.Core.Path.{◌∙◌}
use lib.ListN.{length-set}
use Rattle.theory.specs.SheetText.{symbol_text}
use Rattle.syntax.specs.Signatures.{symbol_in}
use Rattle.sheet_text.proofs.LinesWritten.{line-length, line-written}
use Rattle.sheet_text.proofs.lines.put_symbol_line.Goals as goal

-- `put_symbol_line` meets its contract.
pub put_bytes-from-requires : goal.put_bytes-from-requires
put_bytes-from-requires c = let z = c in
    omega (arith, z.requires.1, line-length z.args.key.now (symbol_text (symbol_in z.args.text.now z.args.symbol)))

pub put_symbol-end-requires : goal.put_symbol-end-requires
put_symbol-end-requires c = let z = c in
    let p = c.put_bytes-from in
    (z.requires.0, omega (arith, z.requires.1, p.ensures.place, p.auto.out, line-length z.args.key.now (symbol_text (symbol_in z.args.text.now z.args.symbol))))

pub bounds-out-end : goal.bounds-out-end
bounds-out-end c = let z = c in
    let p = c.put_bytes-from in
    let q = c.put_symbol-end in
    omega (arith, z.requires.1, p.ensures.place, p.auto.out, q.ensures.place, q.auto.out, line-length z.args.key.now (symbol_text (symbol_in z.args.text.now z.args.symbol)))

pub overflow_add-result : goal.overflow_add-result
overflow_add-result c = let z = c in
    let p = c.put_bytes-from in
    let q = c.put_symbol-end in
    omega (arith, z.well_formed, z.requires.1, p.ensures.place, q.ensures.place, line-length z.args.key.now (symbol_text (symbol_in z.args.text.now z.args.symbol)))

pub shape_of-out : goal.shape_of-out
shape_of-out c = let p = c.put_bytes-from in
    let q = c.put_symbol-end in
    simp length-set (q.auto.out ∙ p.auto.out)

pub returns : goal.returns
returns c = let z = c in
    let p = c.put_bytes-from in
    let q = c.put_symbol-end in let both = line-written z.args.out.now p.new.out q.new.out z.args.at p.result q.result z.args.key.now (symbol_text (symbol_in z.args.text.now z.args.symbol)) p.ensures.written p.ensures.place q.ensures.written q.ensures.place z.requires.1 in record { written = both.0; place = both.1 }
