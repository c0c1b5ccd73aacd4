use mathlib.Core.Path.{refl}
use native.Mathlib.Omega.{arith}
use borrow.Author.Rules.{rules}
use Rattle.merging.proofs.Rounds.{place-room, round-end, round-more}
use Rattle.merging.proofs.merged.Goals as goal

pub loop-at-init : goal.loop-at-init
loop-at-init c = (c.requires, search rules, λ g h. record { is_clause = h; same = refl })

pub without-w-requires : goal.without-w-requires
without-w-requires c =
    let w = c.loop-at.w in
    let at = c.in-Some.ensures in
    (omega arith, place-room w (omega arith) c.in-Some.at at.0 at.1)

pub loop-at-smaller : goal.loop-at-smaller
loop-at-smaller c =
    let w = c.loop-at.w in
    let at = c.in-Some.ensures in
    omega (arith, c.without-w.ensures.count, place-room w (omega arith) c.in-Some.at at.0 at.1)

pub loop-at-preserved : goal.loop-at-preserved
loop-at-preserved c =
    let l = c.loop-at in
    let r = c.without-w in
    let at = c.in-Some.ensures in (
      omega (arith, r.ensures.count, l.invariant.0),
      search rules,
      λ g h. round-more g c.args.c l.w r.result c.in-Some.at (omega arith) at.0 at.1 r.ensures.count r.ensures.words (l.invariant.2 g h),
    )

pub returns : goal.returns
returns c g h =
    let l = c.loop-at in
    round-end g c.args.c l.w (omega arith) c.in_default.ensures (l.invariant.2 g h)
