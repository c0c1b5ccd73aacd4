use mathlib.Core.Path.{◌∙◌}
use mathlib.Core.Bool.{true}
use native.Mathlib.Omega.{arith}
use lib.ListN.{length-set}
use Rattle.theory.specs.Truth.{Interpretation}
use Rattle.truth.proofs.Variables.{letter-below, letter-placed, letter-occurs, letter-valued, function-passed, sign-ends, clause-ends}
use Rattle.truth.proofs.values.variable_values.Goals as goal

-- `variable_values` meets its contract: the variables before place i are valued.

-- a variable's value is the same in every interpretation
abbrev anything : Interpretation
anything = record { function = λ f v. 0; relation = λ p v. true }

pub variable_value-v-requires : goal.variable_value-v-requires
variable_value-v-requires c = let v = c.requires.0 in
    let i = c.loop-i.i in
    let t = c.loop-i-test.true in
    let l = c.if-word-ge-LETTER.true in
    (l, (omega (arith, letter-below v i t l, v.eight), letter-placed v i t l))

pub loop-i-preserved-then-word-ge-LETTER : goal.loop-i-preserved-then-word-ge-LETTER
loop-i-preserved-then-word-ge-LETTER c = let l = c.loop-i in
    let t = c.loop-i-test.true in
    let k = c.if-word-ge-LETTER.true in
    let room = c.requires.1 in (
      length-set l.values l.i c.variable_value-v.result.0 ∙ l.invariant.0,
      λ v. letter-valued v (l.invariant.1 v) t k (omega (arith, l.invariant.0, room)) _ (c.variable_value-v.ensures anything v.variables v.places (letter-below v l.i t k) (letter-occurs v l.i t k)),
    )

pub returns-then-word-ge-PLUS : goal.returns-then-word-ge-PLUS
returns-then-word-ge-PLUS c v = let l = c.loop-i in sign-ends v (l.invariant.1 v) c.loop-i-test.true c.if-word-ge-PLUS.true c.if-word-ge-LETTER.false

pub loop-i-preserved : goal.loop-i-preserved
loop-i-preserved c = let l = c.loop-i in
    (l.invariant.0, λ v. function-passed v (l.invariant.1 v) c.loop-i-test.true c.if-word-ge-PLUS.false)

pub returns : goal.returns
returns c v = clause-ends v (c.loop-i.invariant.1 v) c.loop-i-test.false
