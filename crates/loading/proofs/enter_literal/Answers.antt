-- `enter_literal` meets its contract.
use mathlib.Core.Path.{sym, ◌∙◌}
use native.Mathlib.Omega.{arith}
use Rattle.loading.proofs.LiteralCode.{weight-fits, end_below, end_fits}
use Rattle.loading.proofs.enter_literal.Goals as goal

pub bounds-work-to : goal.bounds-work-to
bounds-work-to c = end_below _ _ _ _ c.requires (sym c.ends_with.ensures ∙ c.if-ends_with.false)

pub overflow_add-work : goal.overflow_add-work
overflow_add-work c = record { fits = end_fits _ _ _ _ c.requires (sym c.ends_with.ensures ∙ c.if-ends_with.false) }

pub overflow_add-work-3 : goal.overflow_add-work-3
overflow_add-work-3 c = record { fits = omega (arith, weight-fits _ _ _ _ c.requires) }

pub overflow_add-work-4 : goal.overflow_add-work-4
overflow_add-work-4 c = record { fits = omega (arith, weight-fits _ _ _ _ c.requires) }
