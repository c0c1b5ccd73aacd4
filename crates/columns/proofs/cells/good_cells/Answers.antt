use Prim.Native.Nat.{ℕ, ◌*◌}
use mathlib.Core.Path.{◌≡◌, sym, ap, ◌∙◌}
use native.Mathlib.Omega.{arith}
use Rattle.syntax.specs.Signatures.{kind_of}
use Rattle.columns.proofs.CellBytes.{value-test, none-gone, all-gone, value-missing, value-bad, last-value, space-missing, no-space, value_gone}
use Rattle.columns.proofs.cells.good_cells.Goals as goal

pub loop-i-init : goal.loop-i-init
loop-i-init c = (λ s _. none-gone s _ _ _, (omega arith, c.least_byte-least.ensures))

pub returns-then-bytes-i : goal.returns-then-bytes-i
returns-then-bytes-i c = let a = c.args in let l = c.loop-i in
    value-missing a.size.0 _ _ _ l.i (l.invariant.0 _ c.value_count-most.ensures) c.loop-i-test.true c.if-bytes-i.true

pub returns-then-not-is_value : goal.returns-then-not-is_value
returns-then-not-is_value c = let a = c.args in let l = c.loop-i in
    value-bad a.size.0 _ _ _ l.i (l.invariant.0 _ c.value_count-most.ensures) c.loop-i-test.true (omega arith)
    (sym c.if-not-is_value.true ∙ value-test a.size.0 (kind_of a.function) _ _ _ _ c.is_value.ensures l.invariant.1.1 c.value_count-most.ensures)

pub returns-then-i-count : goal.returns-then-i-count
returns-then-i-count c = let a = c.args in let l = c.loop-i in
    last-value a.size.0 _ _ _ l.i (l.invariant.0 _ c.value_count-most.ensures) c.loop-i-test.true (omega arith)
    (sym c.if-not-is_value.false ∙ value-test a.size.0 (kind_of a.function) _ _ _ _ c.is_value.ensures l.invariant.1.1 c.value_count-most.ensures) c.if-i-count.true

pub returns-then-bytes-i-2 : goal.returns-then-bytes-i-2
returns-then-bytes-i-2 c = let a = c.args in let l = c.loop-i in
    space-missing a.size.0 _ _ _ l.i (l.invariant.0 _ c.value_count-most.ensures) c.loop-i-test.true (omega arith)
    (sym c.if-not-is_value.false ∙ value-test a.size.0 (kind_of a.function) _ _ _ _ c.is_value.ensures l.invariant.1.1 c.value_count-most.ensures) c.if-i-count.false c.if-bytes-i-2.true

pub returns-then-bytes-i-ne32 : goal.returns-then-bytes-i-ne32
returns-then-bytes-i-ne32 c = let a = c.args in let l = c.loop-i in
    no-space a.size.0 _ _ _ l.i (l.invariant.0 _ c.value_count-most.ensures) c.loop-i-test.true (omega arith)
    (sym c.if-not-is_value.false ∙ value-test a.size.0 (kind_of a.function) _ _ _ _ c.is_value.ensures l.invariant.1.1 c.value_count-most.ensures) c.if-i-count.false c.if-bytes-i-2.false c.if-bytes-i-ne32.true

pub loop-i-preserved : goal.loop-i-preserved
loop-i-preserved c = let a = c.args in let l = c.loop-i in (
  λ s m. value_gone s _ _ _ l.i (l.invariant.0 s m) c.loop-i-test.true (omega arith)
      (sym c.if-not-is_value.false ∙ value-test s (kind_of a.function) _ _ _ _ c.is_value.ensures l.invariant.1.1 m) c.if-i-count.false c.if-bytes-i-2.false c.if-bytes-i-ne32.false,
  (omega arith, l.invariant.1.1),
)

pub returns : goal.returns
returns c = let a = c.args in let l = c.loop-i in
    let e : a.count ≡ l.i = omega arith in
    ap (λ (n : ℕ). 2 * n) e ∙ all-gone a.size.0 _ _ _ l.i (l.invariant.0 _ c.value_count-most.ensures) (omega arith)
