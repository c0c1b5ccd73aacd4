use mathlib.Core.Path.{ap, ◌∙◌}
use Prim.Native.Nat.{ℕ, ◌+◌}
use Rattle.text.proofs.Decimal.{log-length}
use Rattle.text.proofs.writing.decimal_length.Goals as goal

pub returns : goal.returns
returns c = let l = c.checked_ilog10.ensures in ap (λ (k : ℕ). k + 1) c.unwrap_or.ensures ∙ log-length _ _ l.none l.power_le l.next_power_gt
