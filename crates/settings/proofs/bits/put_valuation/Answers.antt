use mathlib.Core.List.{[]}
use native.Mathlib.Omega.{arith}
use Rattle.clauses.proofs.Held.{arity-at}
use Rattle.settings.proofs.Blocks.{none-put, table-ends, block_within, block-put, all-put}
use Rattle.settings.proofs.bits.put_valuation.Goals as goal

pub loop-i-init : goal.loop-i-init
loop-i-init c = let a = c.args in λ sheet. none-put sheet a.signature a.size.0 a.cells.now a.out.now

pub power-requires : goal.power-requires
power-requires c = let s = c in
    (s.requires.limited.1.0, omega (arith, arity-at s.args.signature s.requires.limited.0 c.loop-i.i c.loop-i-test.true))

pub overflow_add-end : goal.overflow_add-end
overflow_add-end c = let s = c in
    let a = s.args in
    let l = c.loop-i in
    omega (
      arith,
      table-ends a.signature a.size.0 a.cells.now s.requires.limited.0 s.requires.limited.1.0 s.requires.limited.1.1 [] a.out.now l.out l.base l.i (l.invariant []) c.loop-i-test.true c.power.result c.power.ensures,
    )

pub slice_bounds-put_block-end : goal.slice_bounds-put_block-end
slice_bounds-put_block-end c = let s = c in
    let a = s.args in
    let l = c.loop-i in
    let p = c.power in
    omega (
      arith,
      s.requires.limited.1.1,
      table-ends a.signature a.size.0 a.cells.now s.requires.limited.0 s.requires.limited.1.0 s.requires.limited.1.1 [] a.out.now l.out l.base l.i (l.invariant []) c.loop-i-test.true p.result p.ensures,
    )

pub put_block-requires : goal.put_block-requires
put_block-requires c = let s = c in
    let a = s.args in
    let l = c.loop-i in
    let p = c.power in
    let n = s.requires.by_index.0 [] in
    let w = block_within a.signature a.size.0 a.cells.now s.requires.limited.0 s.requires.limited.1.0 s.requires.limited.1.1 [] a.out.now l.out l.base l.i (l.invariant []) c.loop-i-test.true p.result p.ensures a.n n in record { size_bound = (s.requires.limited.1.0, omega (arith, w, n.small)); function_in_bounds = omega (arith, w, s.requires.by_index.1, (l.invariant []).held) }

pub loop-i-preserved : goal.loop-i-preserved
loop-i-preserved c = let s = c in
    let a = s.args in
    let l = c.loop-i in
    let p = c.power in
    let b = c.put_block in
    let h = c.loop-i-test.true in
    λ sheet.
    block-put a.signature a.size.0 a.cells.now s.requires.limited.0 s.requires.limited.1.0 s.requires.limited.1.1 sheet a.out.now l.out l.base l.i (l.invariant sheet) h p.result p.ensures a.n (s.requires.by_index.0 sheet) s.requires.by_index.1 b.new.out b.auto.out b.ensures

pub returns : goal.returns
returns c = let s = c in
    let a = s.args in
    let l = c.loop-i in
    λ sheet. all-put a.signature a.size.0 a.cells.now s.requires.limited.0 s.requires.limited.1.0 s.requires.limited.1.1 sheet a.out.now l.out l.base l.i (l.invariant sheet) c.loop-i-test.false
