use borrow.Author.Rules.{rules}
use native.Mathlib.Omega.{arith}
use Rattle.judging.proofs.ValuesShown.{none-shown, digit-below, value-shown, all_shown}
use Rattle.judging.proofs.reasons.values_of.Goals as goal

pub loop-i-init : goal.loop-i-init
loop-i-init c = (search rules, none-shown c.args.values)

pub overflow_add-shown : goal.overflow_add-shown
overflow_add-shown c = let z = c in
    omega (arith, digit-below z.args.values (search rules) _ c.loop-i-test.true z.requires.1)

pub loop-i-preserved : goal.loop-i-preserved
loop-i-preserved c = let z = c in
    let l = c.loop-i in
    (search rules, value-shown z.args.values (search rules) l.i c.loop-i-test.true z.requires.0 l.shown l.invariant.1)

pub returns : goal.returns
returns c = let z = c in
    let l = c.loop-i in
    all_shown z.args.values l.i l.shown (omega arith) l.invariant.1
