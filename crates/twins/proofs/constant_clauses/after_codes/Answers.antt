use lib.ListN.{replicate}
use lib.Seq.{length-take-le}
use Prim.Native.Nat.{◌+◌}
use mathlib.Core.Path.{◌≡◌, refl, ◌∙◌}
use native.Mathlib.Omega.{arith}
use lib.ListN.{length, length-set}
use Rattle.twins.specs.Constants.{held_bases}
use Rattle.twins.proofs.TwinWalk.{after-begins, after_more, after-done}
use Rattle.twins.proofs.constant_clauses.after_codes.Goals as goal

pub result_is-next-requires : goal.result_is-next-requires
result_is-next-requires c = let s = c in
    (omega (arith, s.requires.0.small s.args.i s.requires.1), omega (arith, s.requires.2))

pub literal-requires : goal.literal-requires
literal-requires c = let s = c in
    omega (arith, c.result_is-next.ensures, s.requires.0.small s.args.i s.requires.1, s.requires.2)

pub loop-j-init : goal.loop-j-init
loop-j-init c = let s = c in
    let a = s.args in
    (refl, after-begins a.constants a.i a.d.0 c.result_is-next.result.0 c.literal.result (replicate 56 0) s.requires.1 (omega arith) c.result_is-next.ensures c.literal.ensures)

pub result_is-held-requires : goal.result_is-held-requires
result_is-held-requires c = let s = c in
    let l = c.loop-j in
    (omega (arith, s.requires.0.small l.j (omega (arith, s.requires.1))), omega (arith, s.requires.2))

pub literal-requires-in-loop-j : goal.literal-requires-in-loop-j
literal-requires-in-loop-j c = let s = c in
    let l = c.loop-j in
    omega (arith, c.result_is-held.ensures, s.requires.0.small l.j (omega (arith, s.requires.1)), s.requires.2)

pub loop-j-preserved : goal.loop-j-preserved
loop-j-preserved c = let s = c in
    let a = s.args in
    let l = c.loop-j in
    let held : length (held_bases a.constants) ≡ a.constants.count = length-take-le a.constants.count a.constants.first s.requires.0.held in (
      length-set l.codes (l.j + 1) c.literal-in-loop-j.result ∙ l.invariant.0,
      after_more a.constants a.i a.d.0 l.j (l.j + 1) c.result_is-held.result.0 c.literal-in-loop-j.result l.codes (omega arith) (omega (arith, held, s.requires.1)) (omega (arith, s.requires.1)) (omega (arith, l.invariant.0, s.requires.0.few, s.requires.1)) c.result_is-held.ensures c.literal-in-loop-j.ensures l.invariant.1,
    )

pub returns : goal.returns
returns c = let s = c in
    let l = c.loop-j in
    after-done s.args.constants s.args.i s.args.d.0 l.j l.codes (omega arith) l.invariant.1
