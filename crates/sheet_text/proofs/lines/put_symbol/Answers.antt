use native.Mathlib.Omega.{arith}
use lib.ListN.{length-set}
use Rattle.sheet_text.proofs.LinesWritten.{symbol-length, symbol-written}
use Rattle.sheet_text.proofs.lines.put_symbol.Goals as goal

-- `put_symbol` meets its contract.
pub put_name-end-requires : goal.put_name-end-requires
put_name-end-requires c = let z = c in
    (z.requires.0, omega (arith, z.requires.1, symbol-length z.args.text.now z.args.symbol))

pub bounds-out-end : goal.bounds-out-end
bounds-out-end c = let z = c in
    let p = c.put_name-end in
    omega (arith, z.requires.1, p.ensures.place, p.auto.out, symbol-length z.args.text.now z.args.symbol)

pub overflow_add-out-2 : goal.overflow_add-out-2
overflow_add-out-2 c = let z = c in
    let p = c.put_name-end in
    omega (arith, z.well_formed, z.requires.1, p.ensures.place, symbol-length z.args.text.now z.args.symbol)

pub bounds-out-end-2 : goal.bounds-out-end-2
bounds-out-end-2 c = let z = c in
    let p = c.put_name-end in
    simp length-set (omega (arith, z.requires.1, p.ensures.place, p.auto.out, symbol-length z.args.text.now z.args.symbol))

pub overflow_add-result : goal.overflow_add-result
overflow_add-result c = let z = c in
    let p = c.put_name-end in
    omega (arith, z.well_formed, z.requires.1, p.ensures.place, symbol-length z.args.text.now z.args.symbol)

pub returns : goal.returns
returns c = let z = c in
    let p = c.put_name-end in let both = symbol-written z.args.text.now z.args.symbol z.args.out.now p.new.out z.args.at p.result p.ensures.written p.ensures.place z.requires.1 in record { written = both.0; place = both.1 }
