use native.Mathlib.Omega.{arith}
use mathlib.Core.Path.{◌≡◌}
use Rattle.sheet_text.proofs.Symbols.{short-at}
use Rattle.sheet_text.proofs.SymbolLines.{no_lines, one_line}
use Rattle.sheet_text.proofs.head.symbol_lines_length.Goals as goal

pub loop-i-init : goal.loop-i-init
loop-i-init c = let s = c in
    no_lines s.args.k.key.now s.args.signature s.args.k.from (omega (arith, s.requires.1.0.ordered, s.requires.1.0.within))

pub symbol_line_length-n-requires : goal.symbol_line_length-n-requires
symbol_line_length-n-requires c = let s = c in
    let l = c.loop-i in
    omega (arith, s.requires.1.1, short-at s.args.signature s.requires.0 l.i (omega (arith, s.requires.1.0.within)))

pub overflow_add-n : goal.overflow_add-n
overflow_add-n c = let s = c in
    let l = c.loop-i in
    omega (
      arith,
      s.requires.1.1,
      s.requires.0.limited.count,
      s.requires.1.0.within,
      l.invariant.within,
      c.symbol_line_length-n.ensures.short,
      short-at s.args.signature s.requires.0 l.i (omega (arith, s.requires.1.0.within)),
    )

pub loop-i-preserved : goal.loop-i-preserved
loop-i-preserved c = let s = c in
    let l = c.loop-i in
    let p = c.symbol_line_length-n in
    let short = short-at s.args.signature s.requires.0 l.i (omega (arith, s.requires.1.0.within)) in
    one_line s.args.k.key.now s.args.signature s.args.k.from l.i l.n p.result (omega arith) (omega (arith, s.requires.1.0.within)) (omega (arith, s.requires.1.1, p.ensures.short)) p.ensures.length l.invariant

pub returns : goal.returns
returns c = let s = c in
    let l = c.loop-i in
    let e : l.i ≡ s.args.k.to = omega (arith, s.requires.1.0.ordered) in record { length = λ text r. rw e at (l.invariant.measured text r); short = omega (arith, l.invariant.within) }
