-- `table_found` meets its contract.
use Prim.Native.Nat.{ℕ, ◌+◌, ◌*◌}
use mathlib.Core.Path.{◌≡◌, ap, ◌∙◌}
use native.Mathlib.Omega.{arith}
use lib.ListN.{length, replicate}
use Rattle.theory.specs.Propositional.{width}
use Rattle.theory.specs.Valuation.{values_of}
use Rattle.syntax.specs.Signatures.{kind_of}
use Rattle.reading_back.proofs.Bits.{part-kept, front-again, values-of-part}
use Rattle.reading_back.proofs.tables.table_found.Goals as goal

pub returns : goal.returns
returns c = let s = c in
    let a = s.args in
    let w = c.width in
    let e : length a.table.now * w.result ≡ length a.table.now * width a.size.0 (kind_of a.function) = ap (λ (n : ℕ). length a.table.now * n) w.ensures in
    let r = c.read_values in
    let n : ℕ = length a.table.now * w.result in
    let kept : length r.new.setting ≡ n = part-kept n _ r.new.setting (omega (arith, e, s.requires.size_bound.1)) r.auto.setting in
    let k = kind_of a.function in
    c.read_table.ensures
    ∙ ap (values_of a.size.0 (replicate (length a.table.now) k)) (front-again n r.new.setting _ kept ∙ r.ensures)
    ∙ values-of-part a.size.0 k (length a.table.now) a.from.0 (a.from.0 + n) a.values.now (omega arith) (omega (arith, s.requires.function_in_bounds))
