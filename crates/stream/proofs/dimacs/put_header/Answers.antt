-- `put_header` meets its contract.
use Rattle.stream.proofs.Texts.{header-written, length-header}
use lib.ListN.{length-append, length-set}
use mathlib.Core.List.{◌∷◌, []}
use Rattle.theory.specs.Bytes.{decimal, space}
use mathlib.Core.Path.{◌∙◌}
use native.Mathlib.Omega.{arith}
use Rattle.stream.proofs.dimacs.put_header.Goals as goal

pub put_bytes-a-requires : goal.put_bytes-a-requires
put_bytes-a-requires c = let s = c in omega (arith, s.requires, length-header s.args.variables s.args.clauses)

pub put_spaced-b-requires : goal.put_spaced-b-requires
put_spaced-b-requires c = let s = c in
    let a = c.put_bytes-a in
    omega (arith, s.requires, a.ensures.place, a.auto.out, length-header s.args.variables s.args.clauses, length-append (decimal s.args.variables) (space ∷ []))

pub put_number-c-requires : goal.put_number-c-requires
put_number-c-requires c = let s = c in
    let a = c.put_bytes-a in
    let b = c.put_spaced-b in
    omega (arith, s.requires, a.ensures.place, a.auto.out, b.ensures.place, b.auto.out, length-header s.args.variables s.args.clauses, length-append (decimal s.args.variables) (space ∷ []))

pub bounds-out-c : goal.bounds-out-c
bounds-out-c c = let s = c in
    let a = c.put_bytes-a in
    let b = c.put_spaced-b in
    let n = c.put_number-c in
    omega (arith, s.requires, a.ensures.place, b.ensures.place, n.ensures.place, a.auto.out, b.auto.out, n.auto.out, length-header s.args.variables s.args.clauses, length-append (decimal s.args.variables) (space ∷ []))

pub overflow_add-result : goal.overflow_add-result
overflow_add-result c = let s = c in
    let a = c.put_bytes-a in
    let b = c.put_spaced-b in
    let n = c.put_number-c in
    omega (arith, s.well_formed, s.requires, a.ensures.place, b.ensures.place, n.ensures.place, a.auto.out, b.auto.out, n.auto.out, length-header s.args.variables s.args.clauses, length-append (decimal s.args.variables) (space ∷ []))

pub shape_of-out : goal.shape_of-out
shape_of-out c = let s = c in
    let a = c.put_bytes-a in
    let b = c.put_spaced-b in
    let n = c.put_number-c in
    simp length-set (n.auto.out ∙ b.auto.out ∙ a.auto.out)

pub returns : goal.returns
returns c = let s = c in
    let a = c.put_bytes-a in
    let b = c.put_spaced-b in
    let n = c.put_number-c in let both = header-written s.args.variables s.args.clauses s.args.out.now a.new.out b.new.out n.new.out s.args.at a.result b.result n.result s.requires
    a.ensures.written a.ensures.place b.ensures.written b.ensures.place n.ensures.written n.ensures.place in record { written = both.0; place = both.1 }
