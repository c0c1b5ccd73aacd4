use Prim.Native.Nat.{◌-◌}
use mathlib.Core.Path.{◌≡◌}
use native.Mathlib.Omega.{arith}
use lib.ListN.{length, length-set}
use Rattle.interpretation.proofs.Ranks.{all_below-at}
use Rattle.cases.proofs.Pairs.{none_written, value_written, all-written}
use Rattle.cases.proofs.writing.put_values.Goals as goal

pub loop-i-init : goal.loop-i-init
loop-i-init c = let a = c.args in
    none_written a.out.now a.at a.least a.table.now

pub bounds-out-e : goal.bounds-out-e
bounds-out-e c = let l = c.loop-i.invariant in
    omega (arith, l.cursor, l.held, c.requires.1.1)

pub overflow_add-out : goal.overflow_add-out
overflow_add-out c = let s = c in
    omega (arith, s.requires.0, all_below-at 8 s.args.table.now c.loop-i.i c.loop-i-test.true s.requires.1.0)

pub overflow_add-out-in-loop-i : goal.overflow_add-out-in-loop-i
overflow_add-out-in-loop-i c = omega (arith, c.loop-i.invariant.cursor, c.requires.1.1, c.loop-i-test.true, c.well_formed)

pub bounds-out-e-in-loop-i : goal.bounds-out-e-in-loop-i
bounds-out-e-in-loop-i c = let l = c.loop-i.invariant in
    simp length-set (omega (arith, l.cursor, l.held, c.requires.1.1, c.loop-i-test.true))

pub overflow_add-e : goal.overflow_add-e
overflow_add-e c = omega (arith, c.loop-i.invariant.cursor, c.requires.1.1, c.loop-i-test.true, c.well_formed)

pub loop-i-preserved : goal.loop-i-preserved
loop-i-preserved c = value_written c.loop-i.invariant c.requires.1.1 _ c.separator.ensures c.loop-i-test.true

pub bounds-out-e-2 : goal.bounds-out-e-2
bounds-out-e-2 c = let l = c.loop-i.invariant in
    omega (arith, l.cursor, l.held, l.within, c.requires.1.1)

pub overflow_add-result : goal.overflow_add-result
overflow_add-result c = let l = c.loop-i.invariant in
    omega (arith, l.cursor, l.within, c.requires.1.1, c.well_formed)

pub shape_of-out : goal.shape_of-out
shape_of-out c = simp length-set c.loop-i.invariant.held

pub returns : goal.returns
returns c = let l = c.loop-i in
    let z : l.i ≡ length c.args.table.now = omega (arith, l.invariant.within, c.loop-i-test.false) in record { written = all-written l.invariant c.requires.1.1 z; place = omega (arith, l.invariant.cursor) }
