use native.Mathlib.Omega.{arith}
use Rattle.clauses.proofs.Held.{arity-at}
use Rattle.case_writer.proofs.Lines.{none_written, table-ends, line-room, line-written, all-written, last-place}
use Rattle.case_writer.proofs.put_tables.Goals as goal

pub loop-i-init : goal.loop-i-init
loop-i-init c = let a = c.args in
    none_written a.sheet.now a.signature a.size.0 a.cells.now a.out.now a.at

pub power-requires : goal.power-requires
power-requires c = let s = c in
    let a = s.args in
    let l = c.loop-i in
    (s.requires.writable.size, omega (arith, arity-at a.signature s.requires.writable.readable.limited l.i c.loop-i-test.true))

pub overflow_add-end : goal.overflow_add-end
overflow_add-end c = let s = c in
    let a = s.args in
    let l = c.loop-i in
    omega (arith, s.well_formed, table-ends a.sheet.now a.signature a.size.0 a.cells.now s.requires.writable l.i c.loop-i-test.true a.out.now a.at l.out l.e l.base s.requires.cells_in_bounds l.invariant c.power.result c.power.ensures)

pub slice_bounds-put_table-end : goal.slice_bounds-put_table-end
slice_bounds-put_table-end c = let s = c in
    let a = s.args in
    let l = c.loop-i in
    table-ends a.sheet.now a.signature a.size.0 a.cells.now s.requires.writable l.i c.loop-i-test.true a.out.now a.at l.out l.e l.base s.requires.cells_in_bounds l.invariant c.power.result c.power.ensures

pub put_table-e-requires : goal.put_table-e-requires
put_table-e-requires c = let s = c in
    let a = s.args in
    let l = c.loop-i in
    line-room a.sheet.now a.signature a.size.0 a.cells.now s.requires.writable l.i c.loop-i-test.true a.out.now a.at l.out l.e l.base s.requires.cells_in_bounds l.invariant c.power.result c.power.ensures

pub loop-i-preserved : goal.loop-i-preserved
loop-i-preserved c = let s = c in
    let a = s.args in
    let l = c.loop-i in
    let p = c.put_table-e in
    line-written a.sheet.now a.signature a.size.0 a.cells.now s.requires.writable l.i c.loop-i-test.true a.out.now a.at l.out l.e l.base s.requires.cells_in_bounds l.invariant c.power.result c.power.ensures p.new.out p.result p.auto.out p.ensures.written p.ensures.place

pub returns : goal.returns
returns c = let s = c in
    let a = s.args in
    let l = c.loop-i in record { written = all-written a.sheet.now a.signature a.size.0 a.cells.now s.requires.writable a.out.now a.at l.out l.e l.base l.i l.invariant c.loop-i-test.false; place = last-place a.sheet.now a.signature a.size.0 a.cells.now s.requires.writable a.out.now a.at l.out l.e l.base l.i l.invariant c.loop-i-test.false }
