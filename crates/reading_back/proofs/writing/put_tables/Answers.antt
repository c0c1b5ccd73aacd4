use Rattle.reading_back.specs.Bits.{bits_held}
use Rattle.reading_back.proofs.Written.{none_written, table-lent, line-fits, line-written, all-written, last-place}
use Rattle.reading_back.proofs.writing.put_tables.Goals as goal

pub loop-i-init : goal.loop-i-init
loop-i-init c = let a = c.args in
    none_written a.sheet.now a.signature a.size.0 (bits_held a.bits) a.out.now a.at

pub put_symbol-e-requires : goal.put_symbol-e-requires
put_symbol-e-requires c = let s = c in
    let a = s.args in
    let l = c.loop-i in
    let h = c.loop-i-test.true in
    let bits = bits_held a.bits in record { table_lent = table-lent a.sheet.now a.signature a.n a.size.0 bits s.requires.writable_bits l.i h; values_in_bounds = line-fits a.sheet.now a.signature a.n a.size.0 bits s.requires.writable_bits l.i h a.out.now a.at l.out l.e s.requires.values_in_bounds l.invariant }

pub loop-i-preserved : goal.loop-i-preserved
loop-i-preserved c = let s = c in
    let a = s.args in
    let l = c.loop-i in
    let h = c.loop-i-test.true in
    let bits = bits_held a.bits in
    let p = c.put_symbol-e in
    line-written a.sheet.now a.signature a.n a.size.0 bits s.requires.writable_bits l.i h a.out.now a.at l.out l.e s.requires.values_in_bounds l.invariant p.new.out p.result p.auto.out p.ensures.written p.ensures.place

pub returns : goal.returns
returns c = let s = c in
    let a = s.args in
    let l = c.loop-i in
    let bits = bits_held a.bits in record { written = all-written a.sheet.now a.signature a.n a.size.0 bits s.requires.writable_bits a.out.now a.at l.out l.e l.i l.invariant c.loop-i-test.false; place = last-place a.sheet.now a.signature a.n a.size.0 bits s.requires.writable_bits a.out.now a.at l.out l.e l.i l.invariant c.loop-i-test.false }
