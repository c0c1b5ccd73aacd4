use Rattle.reading_back.specs.Bits.{bits_held}
use Rattle.reading_back.proofs.Written.{heading-fits, lines_fit, case-written, case-end}
use Rattle.reading_back.proofs.writing.write_case.Goals as goal

-- `write_case` meets its contract: the heading, then the symbols' lines.
pub put_heading-at-requires : goal.put_heading-at-requires
put_heading-at-requires c = let s = c in
    let a = s.args in
    let bits = bits_held a.bits in
    (s.requires.writable_bits.size, heading-fits a.sheet.now a.signature a.n a.size.0 bits s.requires.writable_bits a.out.now s.requires.signature_in_bounds)

pub put_tables-requires : goal.put_tables-requires
put_tables-requires c = let s = c in
    let a = s.args in
    let bits = bits_held a.bits in
    let h = c.put_heading-at in record { writable_bits = s.requires.writable_bits; values_in_bounds = lines_fit a.sheet.now a.signature a.n a.size.0 bits s.requires.writable_bits a.out.now s.requires.signature_in_bounds h.new.out h.result h.auto.out h.ensures.written h.ensures.place }

pub returns : goal.returns
returns c = let s = c in
    let a = s.args in
    let bits = bits_held a.bits in
    let h = c.put_heading-at in
    let p = c.put_tables in record { written = case-written a.sheet.now a.signature a.n a.size.0 bits s.requires.writable_bits a.out.now s.requires.signature_in_bounds h.new.out h.result h.auto.out h.ensures.written h.ensures.place p.new.out p.ensures.written; place = case-end a.sheet.now a.signature a.n a.size.0 bits s.requires.writable_bits a.out.now s.requires.signature_in_bounds h.new.out h.result h.auto.out h.ensures.written h.ensures.place p.result p.ensures.place }
