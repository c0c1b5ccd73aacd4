use Prim.Native.Nat.{ℕ}
use mathlib.Core.Path.{◌≡◌, refl, sym, ap, ◌∙◌}
use native.Mathlib.Omega.{arith}
use Rattle.theory.specs.Lists.{all, elem, up_to}
use Rattle.rearranging.specs.Entries.{rearrangement_in}
use Rattle.rearranging.proofs.Covering.{one-missing, one_more}
use Rattle.rearranging.proofs.rearrangement.Rearrangement.covers.Goals as goal

pub loop-d-init : goal.loop-d-init
loop-d-init c = refl

pub has-requires : goal.has-requires
has-requires c = let s = c in (s.requires.0, omega (arith, c.loop-d-test.true, s.requires.1))

pub returns-then-not-has : goal.returns-then-not-has
returns-then-not-has c = let s = c in
    let l = c.loop-d in
    let h = c.has in
    sym (one-missing (rearrangement_in s.args.self) s.args.size.0 l.d c.loop-d-test.true (sym h.ensures ∙ c.if-not-has.true))

pub loop-d-preserved : goal.loop-d-preserved
loop-d-preserved c = let s = c in
    let l = c.loop-d in
    let h = c.has in
    one_more (rearrangement_in s.args.self) l.d l.invariant (sym h.ensures ∙ c.if-not-has.false)

pub returns : goal.returns
returns c = let s = c in
    let l = c.loop-d in
    let e : l.d ≡ s.args.size.0 = omega arith in
    sym (ap (λ (n : ℕ). all (λ d. elem d (rearrangement_in s.args.self)) (up_to n)) (sym e) ∙ l.invariant)
