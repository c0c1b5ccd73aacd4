-- `counts_at` meets its contract.
use mathlib.Core.List.{[]}
use native.Mathlib.Omega.{arith}
use Rattle.counts.proofs.Adding.{both-total, problem-total}
use Rattle.counts.proofs.counts_at.Goals as goal

pub add-requires : goal.add-requires
add-requires c = let t = c.twin_counts-t.ensures [] in
    let d = c.all_clause_counts-c.ensures in
    (omega (arith, t.few-instances, d.few-instances), omega (arith, t.few-literals, d.few-literals))

pub add-requires-2 : goal.add-requires-2
add-requires-2 c = let f = c.function_counts-f.ensures [] in
    let t = c.twin_counts-t.ensures [] in
    let d = c.all_clause_counts-c.ensures in
    let r = c.add.ensures in
    (omega (arith, f.few-instances, t.few-instances, d.few-instances, r.0), omega (arith, f.few-literals, t.few-literals, d.few-literals, r.1))

pub returns : goal.returns
returns c = let z = c in
    let a = z.args in
    let f = c.function_counts-f in
    let t = c.twin_counts-t in
    let d = c.all_clause_counts-c in
    let r = c.add in
    let rest = both-total _ _ _ _ t.result d.result r.result (t.ensures a.sheet.now) d.ensures r.ensures.0 r.ensures.1 in
    let all = both-total _ _ _ _ f.result r.result c.add-2.result (f.ensures a.sheet.now) rest c.add-2.ensures.0 c.add-2.ensures.1 in
    let e = problem-total a.sheet.now a.p z.requires.0 a.size.0 c.add-2.result _ all in record { instances = e.0; literals = e.1; small = (omega (arith, all.few-instances), omega (arith, all.few-literals)) }
