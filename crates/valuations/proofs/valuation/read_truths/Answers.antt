use Prim.Native.Nat.{ℕ, ◌+◌, ◌-◌}
use mathlib.Core.Path.{◌≡◌, sym, ap, ◌∙◌}
use native.Mathlib.Omega.{arith}
use lib.ListN.{length, take, drop, length-drop}
use Rattle.valuations.proofs.Bits.{predicate-values}
use Rattle.valuations.proofs.valuation.read_truths.Goals as goal

-- `read_truths` meets its contract.
pub returns : goal.returns
returns c = let a = c.args in
    let n : a.from.0 + length a.table.now - a.from.0 ≡ length a.table.now = omega arith in
    λ size. c.copy_from_slice.ensures.after ∙ ap (λ (k : ℕ). take k (drop a.from.0 a.setting.now)) n ∙ sym (predicate-values size (length a.table.now) (drop a.from.0 a.setting.now) (omega (arith, length-drop a.from.0 a.setting.now)))
