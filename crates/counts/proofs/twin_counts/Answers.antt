use Prim.Native.Nat.{◌^◌}
use mathlib.Core.Path.{◌≡◌, sym, subst}
use mathlib.Core.Bool.{Bool, true, false, cond}
use mathlib.Core.List.{[]}
use native.Mathlib.Omega.{arith}
use borrow.Author.Tests.{not-true, not-false}
use Rattle.symmetry.specs.ConstantClauses.{constant_parts}
use Rattle.syntax.specs.Signatures.{signature_in}
use Rattle.counts.specs.Totals.{TotalOf}
use Rattle.counts.proofs.Adding.{none-total, total-within, constants-total}
use Rattle.counts.proofs.twin_counts.Goals as goal

-- `twin_counts` meets its contract.
pub returns-then-not-p : goal.returns-then-not-p
returns-then-not-p c = let a = c.args in
    let e : a.p.symmetry ≡ false = not-true a.p.symmetry c.if-not-p.true in
    λ sheet. subst (λ (b : Bool). TotalOf (cond b (constant_parts a.size.0 (signature_in sheet a.p.signature)) []) (2 ^ 15) c.default.result) (sym e) (total-within [] 0 (2 ^ 15) c.default.result (omega arith) (none-total c.default.result (omega arith) (omega arith)))

pub returns : goal.returns
returns c = let a = c.args in
    let e : a.p.symmetry ≡ true = not-false a.p.symmetry c.if-not-p.false in
    let n = c.constant_count-n in
    let r = c.all_constant_counts in
    λ sheet.
    subst (λ (b : Bool). TotalOf (cond b (constant_parts a.size.0 (signature_in sheet a.p.signature)) []) (2 ^ 15) r.result) (sym e)
    (constants-total a.size.0 n.result (signature_in sheet a.p.signature) r.result (n.ensures.count sheet) n.ensures.few r.ensures)
