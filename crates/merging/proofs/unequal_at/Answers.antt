use Prim.Native.Nat.{◌<◌, ◌+◌}
use mathlib.Core.Path.{◌≡◌, sym, ◌∙◌}
use native.Mathlib.Numerals.{add-one}
use native.Mathlib.Omega.{arith}
use lib.ListN.{length}
use borrow.Author.Rules.{rules}
use Rattle.merging.proofs.Rounds.{starts-at, place-hit, place-miss, place_none}
use Rattle.merging.proofs.unequal_at.Goals as goal

pub returns-then-is_unequal : goal.returns-then-is_unequal
returns-then-is_unequal c =
    let w = c.args.w in
    let n : length w.words ≡ 64 = search rules in
    let at = c.loop-at.at in
    let h : at + 3 < w.count = omega arith in
    (sym (place-hit w (omega arith) at h c.loop-at.invariant (starts-at w (omega arith) at h ∙ sym c.is_unequal.ensures ∙ c.if-is_unequal.true)), omega arith)

pub loop-at-preserved : goal.loop-at-preserved
loop-at-preserved c =
    let w = c.args.w in
    let n : length w.words ≡ 64 = search rules in
    let at = c.loop-at.at in
    let h : at + 3 < w.count = omega arith in
    rw add-one (place-miss w (omega arith) at h c.loop-at.invariant (starts-at w (omega arith) at h ∙ sym c.is_unequal.ensures ∙ c.if-is_unequal.false))

pub returns : goal.returns
returns c =
    let w = c.args.w in
    let n : length w.words ≡ 64 = search rules in
    place_none w (omega arith) c.loop-at.at (omega arith) (omega arith) c.loop-at.invariant
