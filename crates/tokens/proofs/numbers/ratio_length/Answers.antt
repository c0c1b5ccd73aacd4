use mathlib.Core.Path.{refl}
use mathlib.Core.Bool.{true, false}
use Rattle.tokens.proofs.NumberLengths.{ratio-by}
use Rattle.tokens.proofs.numbers.ratio_length.Goals.{else-byte_is-via-then-byte_is+then-digit_is+else-not-byte_is, else-byte_is-via-then-byte_is+else-digit_is, else-byte_is-via-else-byte_is}
use Rattle.tokens.proofs.numbers.ratio_length.Goals as goal

-- `ratio_length` tests / and the digit after it.
pub returns-then-not-byte_is : goal.returns-then-not-byte_is
returns-then-not-byte_is c = let a = c.args in ratio-by a.text.now a.at true true false _ c.if-byte_is.ensures c.if-digit_is.ensures c.if-not-byte_is.ensures c.digit_run.ensures.value

pub returns : goal.returns
returns c =
    let a = c.args in
    elim c.else-byte_is.branch [
      | else-byte_is-via-then-byte_is+then-digit_is+else-not-byte_is w ↦ ratio-by a.text.now a.at true true true _ w.if-byte_is.ensures w.if-digit_is.ensures w.if-not-byte_is.ensures refl
      | else-byte_is-via-then-byte_is+else-digit_is w ↦ ratio-by a.text.now a.at true false _ _ w.if-byte_is.ensures w.if-digit_is.ensures refl refl
      | else-byte_is-via-else-byte_is w ↦ ratio-by a.text.now a.at false _ _ _ w.if-byte_is.ensures refl refl refl
    ]
