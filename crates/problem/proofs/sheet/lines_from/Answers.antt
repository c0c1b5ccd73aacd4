use native.Mathlib.Omega.{arith}
use Rattle.syntax.specs.Signatures.{signature_in}
use Rattle.problem.proofs.ClauseTaking.{begins, turn, faults, bytes_left, all-taken}
use Rattle.problem.proofs.sheet.lines_from.Goals as goal

pub loop-i-init : goal.loop-i-init
loop-i-init c = let z = c in
    let a = z.args in
    begins a.named a.sheet.now a.at a.line a.n (signature_in a.sheet.now a.signature) z.requires.0.within

pub clause_line-requires : goal.clause_line-requires
clause_line-requires c = let p = c.requires.0 in (c.loop-i.invariant.inside, (p.readable, p.few))

pub returns-in-Err : goal.returns-in-Err
returns-in-Err c = let z = c in
    let a = z.args in
    let l = c.loop-i in
    faults a.named a.sheet.now a.at a.line a.n (signature_in a.sheet.now a.signature) l.starts l.next l.i l.invariant (omega arith) _ (rw c.in-Err.is at c.clause_line.ensures)

pub offset_bounds-starts-i : goal.offset_bounds-starts-i
offset_bounds-starts-i c = omega (arith, c.requires.1)

pub bounds-starts-i : goal.bounds-starts-i
bounds-starts-i c = omega (arith, c.requires.1, c.loop-i.invariant.held)

pub loop-i-preserved : goal.loop-i-preserved
loop-i-preserved c = let z = c in
    let a = z.args in
    let l = c.loop-i in
    turn a.named a.sheet.now a.at a.line a.n (signature_in a.sheet.now a.signature) l.starts l.next l.i l.invariant (omega arith) z.requires.1 _ _ (rw c.in-Ok.is at c.clause_line.ensures)

pub returns-then-next-sheet : goal.returns-then-next-sheet
returns-then-next-sheet c = let z = c in
    let a = z.args in
    let l = c.loop-i in
    bytes_left a.named a.sheet.now a.at a.line a.n (signature_in a.sheet.now a.signature) l.starts l.next l.i l.invariant (omega arith) c.if-next-sheet.true

pub returns : goal.returns
returns c = let z = c in
    let a = z.args in
    let l = c.loop-i in
    let n = c.none in
    all-taken a.named a.sheet.now a.at a.line a.n a.signature a.functions l.starts l.next l.i l.invariant (omega arith) z.requires.1 c.if-next-sheet.false z.requires.0.readable z.requires.0.few z.requires.0.counted n.result n.ensures.count n.ensures.held
