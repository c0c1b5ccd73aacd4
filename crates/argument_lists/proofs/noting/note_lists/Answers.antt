-- `note_lists` takes one token after the other.
use mathlib.Core.Path.{refl}
use mathlib.Core.List.{[]}
use native.Mathlib.Omega.{arith}
use Rattle.tptp.specs.Tokens.{left_paren}
use Rattle.tptp.specs.Trees.{Name}
use Rattle.scanning.specs.Ahead.{items_at}
use Rattle.argument_lists.proofs.Passes.{pass-begins}
use Rattle.argument_lists.proofs.NotedLists.{noted-ends, noted-next, noted-over}
use Rattle.argument_lists.proofs.noting.note_lists.Goals as goal

-- the ( before the first list has no name
nowhere : Name
nowhere = record { bytes = []; place = 0 }

pub opened-p-requires : goal.opened-p-requires
opened-p-requires c = let a = c.args in ((_, (_, pass-begins nowhere (items_at a.text.now a.at) _ _ c.requires.1)), omega arith)

pub loop-token-init : goal.loop-token-init
loop-token-init c =
    let a = c.args in
    let o = c.opened-p in
    let t = o.ensures.tells _ left_paren nowhere _ refl (pass-begins nowhere (items_at a.text.now a.at) _ _ c.requires.1) in
    let n = o.ensures.more.1.1 (omega arith) in
    (record { telling = t; some = omega (arith, n); few = omega (arith, (t.left (omega (arith, n))).0); within = c.requires.0 }, o.ensures.same_slices)

pub returns-then-is_over-clause-held : goal.returns-then-is_over-clause-held
returns-then-is_over-clause-held c =
    let l = c.loop-token in
    let a = c.after_token-p in
    noted-over _ _ _ _ _ _ (noted-next _ _ l.i _ _ l.p l.invariant.0 _ c.in-Some.ensures _ _ _ a.ensures.tells a.ensures.more.0 a.ensures.more.1) (c.is_over.ensures c.if-is_over.true)

pub returns-clause-held : goal.returns-clause-held
returns-clause-held c = let l = c.loop-token in noted-ends _ _ l.i _ _ l.p l.invariant.0 c.in_default.ensures
