use native.Mathlib.Omega.{arith}
use borrow.Author.Tests.{not-true, not-false}
use Rattle.counts.proofs.Adding.{square-within, le-square, function-instances, function-few, function-few-literals}
use Rattle.counts.proofs.symbol_counts.Goals as goal

-- `symbol_counts` meets its contract.
pub returns-then-not-symbol : goal.returns-then-not-symbol
returns-then-not-symbol c = let a = c.args in
    rw (not-true a.symbol.function c.if-not-symbol.true) (record { instances = omega arith; literals = omega arith; small = (omega arith, omega arith) })

pub overflow_mul-pairs : goal.overflow_mul-pairs
overflow_mul-pairs c = let z = c in omega (arith, square-within z.args.size.0 z.requires.1)

pub overflow_sub-pairs : goal.overflow_sub-pairs
overflow_sub-pairs c = let z = c in le-square z.args.size.0

pub overflow_add-instances : goal.overflow_add-instances
overflow_add-instances c = let z = c in omega (arith, square-within z.args.size.0 z.requires.1)

pub overflow_mul-instances : goal.overflow_mul-instances
overflow_mul-instances c = let z = c in
    let a = z.args in
    omega (arith, function-instances a.size.0 a.symbol.arity c.power.result c.power.ensures, function-few a.size.0 a.symbol.arity z.requires.1 z.requires.0)

pub returns : goal.returns
returns c = let z = c in
    let a = z.args in
    let i = function-instances a.size.0 a.symbol.arity c.power.result c.power.ensures in
    let f = function-few a.size.0 a.symbol.arity z.requires.1 z.requires.0 in
    let l = function-few-literals a.size.0 a.symbol.arity z.requires.1 z.requires.0 in
    rw (not-false a.symbol.function c.if-not-symbol.false) (record { instances = i; literals = c.power-2.ensures; small = (omega (arith, i, f), omega (arith, c.power-2.ensures, l)) })
