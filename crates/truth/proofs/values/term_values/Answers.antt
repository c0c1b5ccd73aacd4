use native.Mathlib.Omega.{arith}
use mathlib.Core.Path.{refl, ◌∙◌}
use Prim.Native.Nat.{◌-◌}
use lib.ListN.{get_or, length-set}
use Rattle.truth.proofs.InsideOut.{tail-valued, word_below, variable-valued, function-declared, arity-small, arguments-within, few-arguments, arguments-below, function-cell, function-valued, all-valued}
use Rattle.truth.proofs.SymbolCells.{base-small}
use Rattle.truth.proofs.values.term_values.Goals as goal

pub loop-i-init : goal.loop-i-init
loop-i-init c = (refl, λ t. tail-valued t)

pub bounds-words-i : goal.bounds-words-i
bounds-words-i c = let t = c.requires in
    let h = c.loop-i.invariant.1 t in
    let m = c.loop-i-test.true in
    word_below t h m

pub loop-i-preserved-then-word-ge-LETTER : goal.loop-i-preserved-then-word-ge-LETTER
loop-i-preserved-then-word-ge-LETTER c = let l = c.loop-i in (
  length-set l.values _ _ ∙ l.invariant.0,
  λ t. variable-valued t (l.invariant.1 t) c.loop-i-test.true c.if-word-ge-LETTER.true,
)

pub bounds-arities-f : goal.bounds-arities-f
bounds-arities-f c = let t = c.requires in
    let h = c.loop-i.invariant.1 t in
    let m = c.loop-i-test.true in
    omega (arith, function-declared t h m c.if-word-ge-LETTER.false, t.table.within)

pub bounds-bases-f : goal.bounds-bases-f
bounds-bases-f c = let t = c.requires in
    let h = c.loop-i.invariant.1 t in
    let m = c.loop-i-test.true in
    omega (arith, function-declared t h m c.if-word-ge-LETTER.false, t.interprets.bases-held)

pub slice_bounds-cell_at-end : goal.slice_bounds-cell_at-end
slice_bounds-cell_at-end c = let t = c.requires in
    let h = c.loop-i.invariant.1 t in
    let m = c.loop-i-test.true in
    omega (arith, h.ahead, arguments-within t h m c.if-word-ge-LETTER.false, h.room)

pub cell_at-c-requires : goal.cell_at-c-requires
cell_at-c-requires c = let t = c.requires in
    let h = c.loop-i.invariant.1 t in
    let m = c.loop-i-test.true in
    let k = c.if-word-ge-LETTER.false in
    (base-small t.interprets _ (function-declared t h m k), (t.interprets.size, (few-arguments _ _ _ (arity-small t h m k), arguments-below t h m k)))

pub function_value-v-requires : goal.function_value-v-requires
function_value-v-requires c = let t = c.requires in
    let h = c.loop-i.invariant.1 t in
    let m = c.loop-i-test.true in
    function-cell t h m c.if-word-ge-LETTER.false _ c.cell_at-c.ensures

pub loop-i-preserved : goal.loop-i-preserved
loop-i-preserved c = let l = c.loop-i in
    let a = c.args in (
      length-set l.values _ _ ∙ l.invariant.0,
      λ t. function-valued t (l.invariant.1 t) c.loop-i-test.true c.if-word-ge-LETTER.false _ c.cell_at-c.ensures _ (c.function_value-v.ensures a.size.0 t.signature t.assignment (get_or a.words.now (l.i - 1) 0)),
    )

pub returns : goal.returns
returns c t = all-valued t (c.loop-i.invariant.1 t) c.loop-i-test.false
