use mathlib.Core.Path.{refl}
use mathlib.Core.Bool.{true, false}
use Rattle.tokens.proofs.NumberLengths.{exponent-by}
use Rattle.tokens.proofs.numbers.exponent_length.Goals as goal

-- `exponent_length` tests e or E, and the digit after a sign.
pub returns-then-not-digit_is : goal.returns-then-not-digit_is
returns-then-not-digit_is c = let a = c.args in exponent-by a.text.now a.at true false _ _ c.if-not-begins_exponent.ensures c.sign_length-n.ensures c.if-not-digit_is.ensures refl

pub returns : goal.returns
returns c = let a = c.args in exponent-by a.text.now a.at true true _ _ c.if-not-begins_exponent.ensures c.sign_length-n.ensures c.if-not-digit_is.ensures c.digit_run.ensures.value
