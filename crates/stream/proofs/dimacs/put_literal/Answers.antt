use mathlib.Core.List.{List}
use lib.ListN.{length, length-set}
use Rattle.text.specs.Put.{put}
use Rattle.stream.proofs.Texts.{spaced-no, spaced-yes, no-written}
use Prim.Native.Nat.{ℕ, ◌+◌}
use mathlib.Core.Path.{sym, ap, ◌∙◌}
use native.Mathlib.Omega.{arith}
use Rattle.stream.proofs.dimacs.put_literal.Goals as goal

-- `put_literal` meets its contract.
pub bounds-out-at : goal.bounds-out-at
bounds-out-at c = let s = c in omega (arith, s.requires, ap length (spaced-no s.args.l c.if-l-eq1.true))

pub put_spaced-requires : goal.put_spaced-requires
put_spaced-requires c = let s = c in simp length-set (omega (arith, s.requires, ap length (spaced-no s.args.l c.if-l-eq1.true)))

pub shape_of-out-then-l-eq1 : goal.shape_of-out-then-l-eq1
shape_of-out-then-l-eq1 c = c.put_spaced.auto.out ∙ simp length-set

pub returns-then-l-eq1 : goal.returns-then-l-eq1
returns-then-l-eq1 c = let s = c in
    let p = c.put_spaced in let both = no-written s.args.out.now p.new.out s.args.at p.result s.args.l c.if-l-eq1.true (omega (arith, s.requires, ap length (spaced-no s.args.l c.if-l-eq1.true))) s.requires p.ensures.written p.ensures.place in record { written = both.0; place = both.1 }

pub put_spaced-requires-2 : goal.put_spaced-requires-2
put_spaced-requires-2 c = let s = c in omega (arith, s.requires, ap length (spaced-yes s.args.l c.if-l-eq1.false))

pub returns : goal.returns
returns c = let s = c in
    let p = c.put_spaced-2 in
    let e = spaced-yes s.args.l c.if-l-eq1.false in record { written = p.ensures.written ∙ ap (put s.args.out.now s.args.at) (sym e); place = p.ensures.place ∙ ap (λ (l : List ℕ). s.args.at + length l) (sym e) }
