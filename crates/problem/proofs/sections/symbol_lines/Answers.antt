use native.Mathlib.Omega.{arith}
use Rattle.syntax.specs.Signatures.{kind_of}
use Rattle.problem.proofs.SectionLines.{begins, turn, faults, ends}
use Rattle.problem.proofs.sections.symbol_lines.Goals as goal

pub loop-i-init : goal.loop-i-init
loop-i-init c = let z = c in
    let a = z.args in
    begins a.sheet.now a.at a.line a.key.now (kind_of a.function) a.n a.before z.requires.1.0 z.requires.0

pub symbol_line-requires : goal.symbol_line-requires
symbol_line-requires c = (c.loop-i.invariant.inside, c.loop-i.invariant.readable)

pub overflow_add-result : goal.overflow_add-result
overflow_add-result c = omega (arith, c.requires.1.1.1, c.loop-i.invariant.within)

pub returns-in-Err : goal.returns-in-Err
returns-in-Err c = let z = c in
    let a = z.args in
    let l = c.loop-i in
    faults a.sheet.now a.at a.line a.key.now (kind_of a.function) a.n a.before l.signature l.next l.i l.invariant (omega arith) _ (rw c.in-Err.is at c.symbol_line.ensures)

pub with-signature-requires : goal.with-signature-requires
with-signature-requires c = omega (arith, c.requires.1.1.0, c.loop-i.invariant.count)

pub loop-i-preserved : goal.loop-i-preserved
loop-i-preserved c = let z = c in
    let a = z.args in
    let l = c.loop-i in
    turn a.sheet.now a.at a.line a.key.now (kind_of a.function) a.n a.before l.signature l.next l.i l.invariant (omega arith) c.with-signature.result _ _ (rw c.in-Ok.is at c.symbol_line.ensures) z.requires.1.1.0 c.with-signature.ensures.count c.with-signature.ensures.symbols

pub overflow_add-result-2 : goal.overflow_add-result-2
overflow_add-result-2 c = omega (arith, c.requires.1.1.1)

pub returns : goal.returns
returns c = let z = c in
    let a = z.args in
    let l = c.loop-i in
    ends a.sheet.now a.at a.line a.key.now (kind_of a.function) a.n a.before l.signature l.next l.i l.invariant (omega arith)
