use native.Mathlib.Omega.{arith}
use Rattle.ranges.proofs.Constants.{unsettled-low, unsettled-high, settled-by}
use Rattle.ranges.proofs.settled.is_settled.Goals as goal

-- `is_settled` meets its contract.
pub returns-then-low-ne1 : goal.returns-then-low-ne1
returns-then-low-ne1 c = let a = c.args in λ sheet h. unsettled-low sheet a.p a.low.0 a.high.0 c.if-low-ne1.true

pub returns-then-high-p : goal.returns-then-high-p
returns-then-high-p c = let a = c.args in
    λ sheet h. unsettled-high sheet a.p a.low.0 a.high.0 h (omega (arith, c.if-high-p.true))

pub returns : goal.returns
returns c = let a = c.args in
    λ sheet h.
    settled-by sheet a.p a.low.0 a.high.0 c.all_constants.result h c.if-low-ne1.false (omega (arith, c.if-high-p.false))
    (c.all_constants.ensures sheet)
