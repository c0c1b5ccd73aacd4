use borrow.Author.Rules.{rules}
use Prim.Native.Nat.{◌-◌}
use mathlib.Core.Path.{◌≡◌}
use native.Mathlib.Omega.{arith}
use Rattle.interpretation.proofs.Steps.{before, digit-below, one-passed, stepped, all-passed}
use Rattle.interpretation.proofs.vector.ArgumentVector.step.Goals as goal

pub overflow_add-d : goal.overflow_add-d
overflow_add-d c = let l = c.loop-i in
    let s = c in
    omega (arith, digit-below s.args.self l.self (l.i - 1) s.requires (before s.args.self l.self l.i c.loop-i-test.true l.invariant))

pub returns-then-d-size : goal.returns-then-d-size
returns-then-d-size c = let l = c.loop-i in
    let s = c in
    stepped s.args.self l.self (l.i - 1) s.requires (before s.args.self l.self l.i c.loop-i-test.true l.invariant) c.if-d-size.true

pub loop-i-preserved : goal.loop-i-preserved
loop-i-preserved c = let l = c.loop-i in
    let s = c in
    one-passed s.args.self l.self (l.i - 1) s.requires (before s.args.self l.self l.i c.loop-i-test.true l.invariant) c.if-d-size.false

pub returns : goal.returns
returns c = let l = c.loop-i in
    let s = c in
    let z : l.i ≡ 0 = omega arith in
    all-passed s.args.self l.self s.requires (search rules) (rw z at l.invariant)
