-- `put_united` writes the heading, then one section after the other.
use native.Mathlib.Omega.{arith}
use Rattle.uniting.proofs.Uniting.{heading-fits, functions-fit, predicates-fit, clauses-fit, united-written}
use Rattle.uniting.proofs.united.put_united.Goals as goal

pub put_bytes-heading-requires : goal.put_bytes-heading-requires
put_bytes-heading-requires c = let s = c in heading-fits s.args.first.now s.args.second.now s.args.u s.requires.0 _ s.requires.1

pub put_section-functions-requires : goal.put_section-functions-requires
put_section-functions-requires c = let s = c in
    let a = s.args in
    let p = c.put_bytes-heading in
    (s.requires.0.functions, functions-fit a.first.now a.second.now a.u s.requires.0 _ (omega (arith, s.requires.1, p.auto.out)) p.result p.ensures.place)

pub put_section-predicates-requires : goal.put_section-predicates-requires
put_section-predicates-requires c = let s = c in
    let a = s.args in
    let p = c.put_bytes-heading in
    let f = c.put_section-functions in
    (s.requires.0.predicates, predicates-fit a.first.now a.second.now a.u s.requires.0 _ (omega (arith, s.requires.1, p.auto.out, f.auto.out)) p.result f.result p.ensures.place f.ensures.place)

pub put_section-requires : goal.put_section-requires
put_section-requires c = let s = c in
    let a = s.args in
    let p = c.put_bytes-heading in
    let f = c.put_section-functions in
    let g = c.put_section-predicates in
    (s.requires.0.clauses, clauses-fit a.first.now a.second.now a.u s.requires.0 _ (omega (arith, s.requires.1, p.auto.out, f.auto.out, g.auto.out)) p.result f.result g.result p.ensures.place f.ensures.place g.ensures.place)

pub returns : goal.returns
returns c = let s = c in
    let a = s.args in
    let p = c.put_bytes-heading in
    let f = c.put_section-functions in
    let g = c.put_section-predicates in
    let h = c.put_section in
    united-written a.first.now a.second.now a.u s.requires.0 a.out.now p.new.out f.new.out g.new.out h.new.out p.result f.result g.result h.result s.requires.1
    p.ensures.written p.ensures.place f.ensures.written f.ensures.place g.ensures.written g.ensures.place h.ensures.written h.ensures.place
