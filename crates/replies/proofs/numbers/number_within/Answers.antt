use mathlib.Core.Path.{refl, sym, ◌∙◌}
use native.Mathlib.Omega.{arith}
use Rattle.replies.proofs.Digits.{no_word, leading-zero, begins, no_digit, above, ends}
use Rattle.theory.proofs.Tests.{false_of_not, true_of_not}
use Rattle.replies.proofs.numbers.number_within.Goals as goal

pub returns-then-word-at-clause-number : goal.returns-then-word-at-clause-number
returns-then-word-at-clause-number c = no_word _ _ _ c.if-word-at.true

pub returns-then-word-at-eq48-clause-number : goal.returns-then-word-at-eq48-clause-number
returns-then-word-at-eq48-clause-number c = leading-zero _ _ _ c.if-word-at.false c.if-word-at-eq48.true

pub loop-i-init : goal.loop-i-init
loop-i-init c = begins _ _ _ c.if-word-at.false c.if-word-at-eq48.false

pub returns-then-not-is_digit-clause-number : goal.returns-then-not-is_digit-clause-number
returns-then-not-is_digit-clause-number c = no_digit _ _ _ _ _ c.loop-i.invariant c.loop-i-test.true (sym c.is_digit.ensures ∙ false_of_not _ c.if-not-is_digit.true-raw)

pub returns-then-most-n-clause-number : goal.returns-then-most-n-clause-number
returns-then-most-n-clause-number c =
    above _ _ _ _ _ c.loop-i.invariant c.loop-i-test.true (sym c.is_digit.ensures ∙ true_of_not _ c.if-not-is_digit.false-raw) _ refl c.if-most-n.true

pub returns-clause-number : goal.returns-clause-number
returns-clause-number c = ends _ _ _ _ _ c.loop-i.invariant c.if-word-at.false (omega arith)
