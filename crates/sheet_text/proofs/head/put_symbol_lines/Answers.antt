use mathlib.Core.Path.{◌≡◌, refl, sym, ap, ◌∙◌}
use native.Mathlib.Omega.{arith}
use lib.ListN.{length}
use Rattle.text.specs.Put.{put, put-none}
use Rattle.sheet_text.proofs.Symbols.{named-at}
use Rattle.sheet_text.proofs.LinesWritten.{same_text}
use Rattle.sheet_text.proofs.SymbolLines.{lines_of, lines_none, lines_fit, line-more-written}
use Rattle.sheet_text.proofs.head.put_symbol_lines.Goals as goal

pub loop-i-init : goal.loop-i-init
loop-i-init c = let s = c in
    let a = s.args in
    let e = lines_none a.k.key.now a.text.now a.signature s.requires.readable.0 a.k.from (omega (arith, s.requires.readable.1.ordered, s.requires.readable.1.within)) in
    (refl, sym (ap (put a.out.now a.at) e ∙ put-none a.out.now a.at), omega (arith, ap length e))

pub put_symbol_line-e-requires : goal.put_symbol_line-e-requires
put_symbol_line-e-requires c = let s = c in
    let a = s.args in
    let l = c.loop-i in
    let t = c.loop-i-test.true in (
      named-at a.text.now a.signature s.requires.readable.0 l.i (omega (arith, s.requires.readable.1.within)),
      omega (arith, s.requires.signature_in_bounds, l.invariant.0, l.invariant.2, lines_fit a.k.key.now a.text.now a.signature s.requires.readable.0 a.k.from l.i a.k.to (omega arith) t s.requires.readable.1.within),
    )

pub loop-i-preserved : goal.loop-i-preserved
loop-i-preserved c = let s = c in
    let a = s.args in
    let l = c.loop-i in
    let t = c.loop-i-test.true in
    let p = c.put_symbol_line-e in
    let r = line-more-written a.k.key.now a.text.now a.signature s.requires.readable.0 a.k.from a.out.now l.out p.new.out a.at l.e p.result l.i (omega arith) (omega (arith, s.requires.readable.1.within))
    (omega (arith, s.requires.signature_in_bounds, l.invariant.2, lines_fit a.k.key.now a.text.now a.signature s.requires.readable.0 a.k.from l.i a.k.to (omega arith) t s.requires.readable.1.within)) l.invariant.1 l.invariant.2 p.ensures.written p.ensures.place in
    (p.auto.out ∙ l.invariant.0, r.0, r.1)

pub returns : goal.returns
returns c = let s = c in
    let a = s.args in
    let l = c.loop-i in
    let e : l.i ≡ a.k.to = omega (arith, s.requires.readable.1.ordered) in let both = same_text a.out.now l.out a.at l.e (lines_of a.k.key.now a.text.now a.signature a.k.from l.i) (lines_of a.k.key.now a.text.now a.signature a.k.from a.k.to)
    (ap (lines_of a.k.key.now a.text.now a.signature a.k.from) e) l.invariant.1 l.invariant.2 in record { written = both.0; place = both.1 }
