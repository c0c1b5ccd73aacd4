use Prim.Native.Nat.{ℕ}
use mathlib.Core.Path.{◌≡◌, subst}
use native.Mathlib.Numerals.{add-one}
use native.Mathlib.Omega.{arith}
use borrow.Author.Rules.{rules}
use lib.ListN.{length}
use Rattle.flattening.specs.Assembled.{LiteralsPut, shallow_at}
use Rattle.flattening.proofs.Assembling.{put-start, put-more}
use Rattle.flattening.proofs.flat.with_literals.Goals as goal

pub loop-j-init : goal.loop-j-init
loop-j-init c =
    let long : length c.args.flat.literals ≡ 26 = search rules in
    put-start c.args.flat c.args.at _ long

pub loop-j-preserved : goal.loop-j-preserved
loop-j-preserved c = let a = c.args in
    let l = c.loop-j in
    rw add-one (put-more a.flat a.at l.j (shallow_at a.l) l.flat l.invariant (omega (arith, c.requires.1, c.loop-j-test.true)))

pub returns : goal.returns
returns c = let a = c.args in
    let l = c.loop-j in
    let e : l.j ≡ a.l.count = omega arith in
    subst (λ (n : ℕ). LiteralsPut a.flat a.at n (shallow_at a.l) l.flat) e l.invariant
