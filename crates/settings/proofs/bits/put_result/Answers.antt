use Prim.Native.Nat.{ℕ, ◌+◌}
use mathlib.Core.Path.{◌≡◌, sym, ap, ◌∙◌}
use mathlib.Core.List.{[], ◌∷◌, ◌++◌}
use native.Mathlib.Omega.{arith}
use mathlib.Core.Bool.{cond}
use lib.Dec.{eqb}
use Rattle.std.proofs.lemmas.Grind.{common_steps}
use lib.ListN.{length, get_or, take}
use lib.Seq.{length-take-le, take-length}
use Rattle.theory.specs.Valuation.{one_hot}
use Rattle.theory.proofs.OneHot.{length-one_hot, one_hot-byte}
use Rattle.text.specs.Put.{put, put-none, put_step, take_more}
use Rattle.settings.proofs.bits.put_result.Goals as goal

pub loop-d-init : goal.loop-d-init
loop-d-init c = sym (put-none _ _)

pub loop-d-preserved : goal.loop-d-preserved
loop-d-preserved c = let a = c.args in
    let l = c.loop-d in
    let bs = one_hot a.size.0 a.value.0 in
    let n = length-one_hot a.size.0 a.value.0 in
    let byte : c.from.result ≡ cond (eqb a.value.0 l.d) 1 0 = grind (arith, common_steps) in
    let is : c.from.result ≡ get_or bs l.d 0 = byte ∙ sym (one_hot-byte a.size.0 a.value.0 l.d (omega arith)) in
    put_step a.out.now l.out a.from.0 l.d (take l.d bs) (take (l.d + 1) bs) c.from.result l.invariant (length-take-le l.d bs (omega (arith, n))) (omega arith)
    (ap (λ (x : ℕ). take l.d bs ++ (x ∷ [])) is ∙ take_more bs l.d 0 (omega (arith, n)))

pub returns : goal.returns
returns c = let a = c.args in
    let l = c.loop-d in
    let bs = one_hot a.size.0 a.value.0 in
    let e : l.d ≡ length bs = omega (arith, length-one_hot a.size.0 a.value.0) in
    l.invariant ∙ ap (put a.out.now a.from.0) (ap (λ (n : ℕ). take n bs) e ∙ take-length bs)
