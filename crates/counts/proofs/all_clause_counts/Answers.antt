use native.Mathlib.Omega.{arith}
use Rattle.syntax.specs.Signatures.{signature_in}
use Rattle.problem.specs.Problems.{problem_in}
use Rattle.problem.proofs.Counted.{clause-count}
use Rattle.counts.proofs.Adding.{none-total, one-clause, all-clauses}
use Rattle.counts.proofs.all_clause_counts.Goals as goal

pub loop-k-init : goal.loop-k-init
loop-k-init c = none-total c.default-total.result (omega arith) (omega arith)

pub add-total-requires : goal.add-total-requires
add-total-requires c = let z = c in
    let t = c.loop-k.invariant in
    let e = c.clause_counts-one.ensures in
    (omega (arith, t.few-instances, z.requires.0.count, e.few-instances), omega (arith, t.few-literals, z.requires.0.count, e.few-literals))

pub loop-k-preserved : goal.loop-k-preserved
loop-k-preserved c = let z = c in
    let a = z.args in
    let l = c.loop-k in
    let b = c.clause_counts-one in
    one-clause a.size.0 (signature_in a.sheet.now a.p.signature) (problem_in a.sheet.now a.p).clauses l.k l.total b.result c.add-total.result
    (omega (arith, clause-count a.sheet.now a.p z.requires.0)) l.invariant b.ensures c.add-total.ensures.0 c.add-total.ensures.1

pub returns : goal.returns
returns c = let z = c in
    let a = z.args in
    let l = c.loop-k in
    all-clauses a.size.0 (signature_in a.sheet.now a.p.signature) (problem_in a.sheet.now a.p).clauses l.k l.total
    (omega (arith, clause-count a.sheet.now a.p z.requires.0)) (omega (arith, z.requires.0.count)) l.invariant
