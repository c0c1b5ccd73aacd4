use Prim.Native.Nat.{ℕ, ◌+◌, ◌*◌}
use mathlib.Core.Path.{◌≡◌, ap, ◌∙◌}
use native.Mathlib.Numerals.{add-one}
use native.Mathlib.Omega.{arith}
use lib.ListN.{take, drop}
use Rattle.theory.specs.Syntax as theory
use Rattle.theory.specs.Valuation.{first_one}
use Rattle.valuations.specs.Cells.{bits_at}
use Rattle.valuations.proofs.Bits.{value-stored}
use Rattle.valuations.proofs.valuation.read_results.Goals as goal

-- `read_results` meets its contract.
pub loop-r-preserved : goal.loop-r-preserved
loop-r-preserved c = let a = c.args in
    let l = c.loop-r in
    let at : ℕ = a.from.0 + l.r * a.size.0 in
    let x : c.first_one-result.result.0 ≡ first_one (bits_at a.setting.now at a.size.0) =
    c.first_one-result.ensures ∙ ap (λ (n : ℕ). first_one (take n (drop at a.setting.now))) (omega arith) in
    rw add-one (value-stored a.size.0 theory.function a.setting.now l.table a.from.0 l.r c.first_one-result.result.0 (omega arith) l.invariant x)
