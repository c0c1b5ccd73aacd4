-- `put_table` meets its contract: the name, then the values.
use native.Mathlib.Omega.{arith}
use Rattle.syntax.proofs.NamesLent.{lent_length}
use Rattle.cases.proofs.TablesWritten.{line-length, least-small, table-written}
use Rattle.cases.proofs.writing.put_table.Goals as goal

pub put_bytes-from-requires : goal.put_bytes-from-requires
put_bytes-from-requires c = let s = c in
    let a = s.args in
    omega (arith, lent_length a.sheet.now a.symbol s.requires.named, line-length a.sheet.now a.symbol s.requires.named a.table.now s.requires.some-value, s.requires.room)

pub put_values-requires : goal.put_values-requires
put_values-requires c = let s = c in
    let a = s.args in
    let p = c.put_bytes-from in (
      rw c.least_byte.ensures (least-small a.symbol.function),
      (
        s.requires.below,
        omega (
          arith,
          p.ensures.place,
          p.auto.out,
          lent_length a.sheet.now a.symbol s.requires.named,
          line-length a.sheet.now a.symbol s.requires.named a.table.now s.requires.some-value,
          s.requires.room,
        ),
      ),
    )

pub returns : goal.returns
returns c = let s = c in
    let a = s.args in
    let p = c.put_bytes-from in
    let q = c.put_values in record {
      written = table-written a.sheet.now a.symbol s.requires.named a.table.now s.requires.some-value a.out.now p.new.out q.new.out a.at _ _ s.requires.room c.least_byte.ensures p.ensures.written p.ensures.place q.ensures.written;
      place = omega (
        arith,
        p.ensures.place,
        q.ensures.place,
        lent_length a.sheet.now a.symbol s.requires.named,
        line-length a.sheet.now a.symbol s.requires.named a.table.now s.requires.some-value,
      );
    }
