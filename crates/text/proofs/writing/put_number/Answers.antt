use Rattle.text.proofs.Backwards.{begins, turn, ends}
use Rattle.text.proofs.writing.put_number.Goals as goal

pub loop-i-init : goal.loop-i-init
loop-i-init c = let a = c.args in begins a.out.now a.at a.n _ c.decimal_length-digits.ensures

pub loop-i-preserved : goal.loop-i-preserved
loop-i-preserved c =
    let a = c.args in
    let l = c.loop-i in
    turn a.out.now a.at a.n l.out l.left l.i c.requires c.loop-i-test.true l.invariant

pub returns-clause-written : goal.returns-clause-written
returns-clause-written c =
    let a = c.args in
    let l = c.loop-i in
    ends a.out.now a.at a.n l.out l.left l.i c.loop-i-test.false l.invariant
