use mathlib.Core.Path.{sym, ◌∙◌}
use Rattle.input_lines.proofs.AllowanceNumbers.{zero_alone, allowance-within}
use Rattle.input_lines.proofs.allowances.allowance_of.Goals as goal

-- `allowance_of` tells a 0 that stands alone, or a number that is not too large.
pub returns-then-eq : goal.returns-then-eq
returns-then-eq c = zero_alone c.args.value.now (sym c.eq.ensures ∙ c.if-eq.true)

pub returns : goal.returns
returns c = c.number_within.ensures.number ∙ allowance-within c.args.value.now (sym c.eq.ensures ∙ c.if-eq.false)
