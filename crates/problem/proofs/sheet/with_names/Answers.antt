-- `with_names` puts a helper behind the symbols for each term.
use mathlib.Core.Bool.{true}
use native.Mathlib.Omega.{arith}
use Rattle.problem.proofs.ModeProblem.{mode-accepted, mode-read, mode-refused, functions-few}
use Rattle.problem.proofs.sheet.with_names.Goals as goal

pub with_helpers-requires : goal.with_helpers-requires
with_helpers-requires c = let z = c in
    let t = c.in-Some.ensures.there in
    (z.requires.readable.limited, omega (arith, z.requires.few, t.table.count))

pub overflow_add-result : goal.overflow_add-result
overflow_add-result c = let z = c in
    let t = c.in-Some.ensures.there in
    omega (arith, functions-few true z.args.sheet.now z.args.p z.requires, t.table.count)

pub overflow_add-result-2 : goal.overflow_add-result-2
overflow_add-result-2 c = let z = c in
    let t = c.in-Some.ensures.there in
    omega (arith, z.requires.count, t.table.count)

pub returns-in_default : goal.returns-in_default
returns-in_default c = let a = c.args in
    rw c.whole.ensures (record { read = mode-refused a.sheet.now a.p c.in_default.ensures.full; accepted = tt })

pub returns : goal.returns
returns c = let z = c in
    let a = z.args in
    let n = c.in-Some in
    let w = c.with_helpers in record {
      read = mode-read a.sheet.now a.p z.requires w.result n.terms w.ensures n.ensures.there n.ensures.found;
      accepted = mode-accepted a.sheet.now a.p z.requires w.result n.terms w.ensures n.ensures.there n.ensures.found;
    }
