use mathlib.Core.Path.{refl}
use mathlib.Core.Bool.{true, false}
use Rattle.tokens.proofs.NumberLengths.{fraction-by}
use Rattle.tokens.proofs.numbers.fraction_length.Goals.{else-byte_is-via-then-byte_is+else-digit_is, else-byte_is-via-else-byte_is}
use Rattle.tokens.proofs.numbers.fraction_length.Goals as goal

-- `fraction_length` tests . and the digit after it.
pub returns-then-digit_is : goal.returns-then-digit_is
returns-then-digit_is c = let a = c.args in fraction-by a.text.now a.at true true _ c.if-byte_is.ensures c.if-digit_is.ensures c.digit_run.ensures.value

pub returns : goal.returns
returns c =
    let a = c.args in
    elim c.else-byte_is.branch [
      | else-byte_is-via-then-byte_is+else-digit_is w ↦ fraction-by a.text.now a.at true false _ w.if-byte_is.ensures w.if-digit_is.ensures refl
      | else-byte_is-via-else-byte_is w ↦ fraction-by a.text.now a.at false _ _ w.if-byte_is.ensures refl refl
    ]
