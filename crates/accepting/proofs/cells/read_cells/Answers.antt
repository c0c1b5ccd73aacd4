use Prim.Native.Nat.{ℕ, ◌+◌}
use mathlib.Core.Path.{ap}
use mathlib.Core.List.{[]}
use native.Mathlib.Omega.{arith}
use Rattle.accepting.proofs.CellsRead.{none_read, bounded, fits, block, numbers_fit, one_more, all_read}
use Rattle.clauses.proofs.Held.{arity-at}
use Rattle.accepting.proofs.cells.read_cells.Goals as goal

pub loop-i-init : goal.loop-i-init
loop-i-init c = λ sheet. none_read _ _ _ _

pub power-requires : goal.power-requires
power-requires c = let s = c in
    let a = s.args in
    let l = c.loop-i in
    (s.requires.limited.1, omega (arith, arity-at a.signature s.requires.limited.0 l.i (omega arith)))

pub overflow_add-end : goal.overflow_add-end
overflow_add-end c = let s = c in
    let a = s.args in
    let l = c.loop-i in
    omega (arith, bounded a.signature s.requires.limited.0 a.size.0 s.requires.limited.1 a.n s.requires.by_index a.setting.now s.requires.setting_len.0 a.cells.now l.cells l.base l.i s.requires.setting_len.1 l.invariant (omega arith), c.power.ensures)

pub slice_bounds-read_table-end : goal.slice_bounds-read_table-end
slice_bounds-read_table-end c = let s = c in
    let a = s.args in
    let l = c.loop-i in
    omega (arith, fits a.signature s.requires.limited.0 a.size.0 s.requires.limited.1 a.n s.requires.by_index a.setting.now s.requires.setting_len.0 a.cells.now l.cells l.base l.i s.requires.setting_len.1 l.invariant (omega arith), c.power.ensures)

pub read_table-requires : goal.read_table-requires
read_table-requires c = let s = c in
    let a = s.args in
    let l = c.loop-i in record { size_bound = (s.requires.limited.1, omega (arith, numbers_fit a.signature s.requires.limited.0 a.size.0 s.requires.limited.1 a.n s.requires.by_index a.setting.now s.requires.setting_len.0 a.cells.now l.cells l.base l.i s.requires.setting_len.1 l.invariant (omega arith))); function_in_bounds = block a.signature s.requires.limited.0 a.size.0 s.requires.limited.1 a.n s.requires.by_index a.setting.now s.requires.setting_len.0 a.cells.now l.cells l.base l.i s.requires.setting_len.1 l.invariant (omega arith) _ (ap (λ (k : ℕ). l.base + k) c.power.ensures) }

pub loop-i-preserved : goal.loop-i-preserved
loop-i-preserved c = let s = c in
    let a = s.args in
    let l = c.loop-i in
    one_more a.signature s.requires.limited.0 a.size.0 s.requires.limited.1 a.n s.requires.by_index a.setting.now s.requires.setting_len.0 a.cells.now l.cells l.base l.i s.requires.setting_len.1 l.invariant (omega arith) _ _ (ap (λ (k : ℕ). l.base + k) c.power.ensures) c.read_table.ensures

pub shape_of-cells : goal.shape_of-cells
shape_of-cells c = (c.loop-i.invariant []).held

pub returns : goal.returns
returns c = let s = c in
    let a = s.args in
    let l = c.loop-i in
    all_read a.signature s.requires.limited.0 a.size.0 s.requires.limited.1 a.n s.requires.by_index a.setting.now s.requires.setting_len.0 a.cells.now l.cells l.base l.i s.requires.setting_len.1 l.invariant (omega arith)
