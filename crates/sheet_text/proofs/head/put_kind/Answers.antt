-- `put_kind` meets its contract.
use native.Mathlib.Omega.{arith}
use Rattle.sheet_text.proofs.HeadParts.{kind-length, kind-written}
use Rattle.sheet_text.proofs.head.put_kind.Goals as goal

pub put_count_line-first-requires : goal.put_count_line-first-requires
put_count_line-first-requires c = let s = c in
    let a = s.args in
    omega (arith, s.requires.signature_in_bounds, kind-length a.k.counting.now a.k.key.now a.text.now a.signature s.requires.readable.0 a.k.from a.k.to s.requires.readable.1.within)

pub put_symbol_lines-requires : goal.put_symbol_lines-requires
put_symbol_lines-requires c = let s = c in
    let a = s.args in
    let p = c.put_count_line-first in record { readable = s.requires.readable; signature_in_bounds = omega (arith, s.requires.signature_in_bounds, p.ensures.place, p.auto.out, kind-length a.k.counting.now a.k.key.now a.text.now a.signature s.requires.readable.0 a.k.from a.k.to s.requires.readable.1.within) }

pub returns : goal.returns
returns c = let s = c in
    let a = s.args in
    let p = c.put_count_line-first in
    let q = c.put_symbol_lines in let both = kind-written a.k.counting.now a.k.key.now a.text.now a.signature s.requires.readable.0 a.k.from a.k.to s.requires.readable.1.within a.out.now p.new.out q.new.out a.at p.result q.result s.requires.signature_in_bounds p.ensures.written p.ensures.place
    q.ensures.written q.ensures.place in record { written = both.0; place = both.1 }
