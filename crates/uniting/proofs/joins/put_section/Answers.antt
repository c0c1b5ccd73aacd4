-- `put_section` writes the count, the first sheet's own lines, then the new ones.
use native.Mathlib.Omega.{arith}
use Rattle.uniting.proofs.LineRuns.{run-bytes}
use Rattle.uniting.proofs.Sections.{section-lengths, section-written}
use Rattle.uniting.proofs.joins.put_section.Goals as goal

pub slice_bounds-put_bytes-count : goal.slice_bounds-put_bytes-count
slice_bounds-put_bytes-count c = let s = c in (run-bytes s.args.first.now s.args.j.first s.requires.0.own).0

pub slice_bounds-put_bytes-start : goal.slice_bounds-put_bytes-start
slice_bounds-put_bytes-start c = let s = c in (run-bytes s.args.first.now s.args.j.first s.requires.0.own).0

pub put_bytes-copied-requires : goal.put_bytes-copied-requires
put_bytes-copied-requires c = let s = c in
    let a = s.args in
    let p = c.put_count_line-counted in
    omega (arith, s.requires.1, p.ensures.place, p.auto.out, section-lengths a.first.now a.second.now a.key.now a.j s.requires.0)

pub put_new_lines-requires : goal.put_new_lines-requires
put_new_lines-requires c = let s = c in
    let a = s.args in
    let p = c.put_count_line-counted in
    let q = c.put_bytes-copied in
    (s.requires.0.own, (s.requires.0.other, omega (arith, s.requires.1, p.ensures.place, p.auto.out, q.ensures.place, q.auto.out, section-lengths a.first.now a.second.now a.key.now a.j s.requires.0)))

pub returns : goal.returns
returns c = let s = c in
    let a = s.args in
    let p = c.put_count_line-counted in
    let q = c.put_bytes-copied in
    let r = c.put_new_lines in let both = section-written a.first.now a.second.now a.key.now a.j s.requires.0 a.out.now p.new.out q.new.out r.new.out a.at p.result q.result r.result s.requires.1
    p.ensures.written p.ensures.place q.ensures.written q.ensures.place r.ensures.written r.ensures.place in record { written = both.0; place = both.1 }
