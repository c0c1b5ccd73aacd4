use mathlib.Core.Path.{sym, ◌∙◌}
use Rattle.columns.proofs.ValueBytes.{no-digits, first-bad, zero-alone, only-digit, second-bad, two_digits}
use Rattle.columns.proofs.good.count_digits.Goals as goal

-- `count_digits` looks at the first two bytes.
pub returns-then-value-eq0 : goal.returns-then-value-eq0
returns-then-value-eq0 c = no-digits c.args.value.now c.if-value-eq0.true

pub returns-then-not-is_digit : goal.returns-then-not-is_digit
returns-then-not-is_digit c = first-bad c.args.value.now c.if-value-eq0.false (sym c.is_digit.ensures ∙ c.if-not-is_digit.true)

pub returns-then-value-eq48 : goal.returns-then-value-eq48
returns-then-value-eq48 c = zero-alone c.args.value.now c.if-value-eq0.false (sym c.is_digit.ensures ∙ c.if-not-is_digit.false) c.if-value-eq48.true

pub returns-then-value-eq1 : goal.returns-then-value-eq1
returns-then-value-eq1 c = only-digit c.args.value.now c.if-value-eq0.false (sym c.is_digit.ensures ∙ c.if-not-is_digit.false) c.if-value-eq48.false c.if-value-eq1.true

pub returns-then-not-is_digit-2 : goal.returns-then-not-is_digit-2
returns-then-not-is_digit-2 c = second-bad c.args.value.now c.if-value-eq0.false (sym c.is_digit.ensures ∙ c.if-not-is_digit.false) c.if-value-eq48.false c.if-value-eq1.false (sym c.is_digit-2.ensures ∙ c.if-not-is_digit-2.true)

pub returns : goal.returns
returns c = two_digits c.args.value.now c.if-value-eq0.false (sym c.is_digit.ensures ∙ c.if-not-is_digit.false) c.if-value-eq48.false c.if-value-eq1.false (sym c.is_digit-2.ensures ∙ c.if-not-is_digit-2.false)
