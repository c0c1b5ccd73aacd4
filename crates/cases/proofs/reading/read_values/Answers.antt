use Prim.Native.Nat.{◌-◌}
use native.Mathlib.Omega.{arith}
use Rattle.syntax.specs.Signatures.{kind_of}
use Rattle.cases.proofs.ValuesAfter.{none-stored, all-stored, separator-fails, value-fails, value-stored, least-at-most}
use Rattle.cases.proofs.reading.read_values.Goals as goal

pub loop-i-init : goal.loop-i-init
loop-i-init c = let a = c.args in
    (λ s m. none-stored s (kind_of a.function) a.count a.bytes.now a.base.0 a.cells.now, c.least_byte-least.ensures)

pub overflow_mul-i : goal.overflow_mul-i
overflow_mul-i c = let s = c in
    omega (arith, s.requires, s.well_formed, c.loop-i-test.true)

pub bounds-bytes-i : goal.bounds-bytes-i
bounds-bytes-i c = omega (arith, c.requires.1.0)

pub shape_of-cells-then-bytes-i : goal.shape_of-cells-then-bytes-i
shape_of-cells-then-bytes-i c = (c.loop-i.invariant.0 _ c.value_count-most.ensures).held

pub returns-then-bytes-i : goal.returns-then-bytes-i
returns-then-bytes-i c = let s = c in
    let m = c.value_count-most.ensures in
    separator-fails (c.loop-i.invariant.0 s.args.size.0 m) s.requires.1.0 c.loop-i-test.true _ c.separator.ensures c.if-bytes-i.true

pub overflow_mul-b : goal.overflow_mul-b
overflow_mul-b c = let s = c in
    omega (arith, s.requires.1.0, s.well_formed, c.loop-i-test.true)

pub overflow_add-b : goal.overflow_add-b
overflow_add-b c = let s = c in
    omega (arith, s.requires.1.0, s.well_formed, c.loop-i-test.true)

pub bounds-bytes-i-in-loop-i : goal.bounds-bytes-i-in-loop-i
bounds-bytes-i-in-loop-i c = let s = c in
    omega (arith, s.requires.1.0, c.loop-i-test.true)

pub shape_of-cells-then-not-is_value : goal.shape_of-cells-then-not-is_value
shape_of-cells-then-not-is_value c = (c.loop-i.invariant.0 _ c.value_count-most.ensures).held

pub returns-then-not-is_value : goal.returns-then-not-is_value
returns-then-not-is_value c = let s = c in
    let l = c.loop-i in
    let m = c.value_count-most.ensures in
    value-fails (l.invariant.0 s.args.size.0 m) s.requires.1.0 c.loop-i-test.true _ c.separator.ensures c.if-bytes-i.false _ _ l.invariant.1 m _ c.is_value.ensures c.if-not-is_value.true

pub overflow_sub-cells : goal.overflow_sub-cells
overflow_sub-cells c = least-at-most _ _ _ _ c.is_value.ensures c.if-not-is_value.false

pub overflow_add-cells : goal.overflow_add-cells
overflow_add-cells c = let s = c in
    omega (arith, s.requires.1.1, c.loop-i-test.true, s.well_formed)

pub bounds-cells-from : goal.bounds-cells-from
bounds-cells-from c = let s = c in
    let m = c.value_count-most.ensures in
    omega (arith, s.requires.1.1, c.loop-i-test.true, (c.loop-i.invariant.0 s.args.size.0 m).held)

pub loop-i-preserved : goal.loop-i-preserved
loop-i-preserved c = let s = c in
    let l = c.loop-i in (
      λ n m.
          value-stored (l.invariant.0 n m) s.requires.1.0 c.loop-i-test.true _ c.separator.ensures c.if-bytes-i.false _ _ l.invariant.1 m _ c.is_value.ensures s.requires.1.1 c.if-not-is_value.false,
      l.invariant.1,
    )

pub shape_of-cells : goal.shape_of-cells
shape_of-cells c = (c.loop-i.invariant.0 _ c.value_count-most.ensures).held

pub returns : goal.returns
returns c = let s = c in
    let t = c.loop-i.invariant.0 s.args.size.0 c.value_count-most.ensures in
    all-stored t s.requires.1.0 (omega (arith, t.within, c.loop-i-test.false))
