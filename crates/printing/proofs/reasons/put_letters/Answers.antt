use mathlib.Core.Path.{refl, ◌∙◌}
use native.Mathlib.Omega.{arith}
use Rattle.printing.proofs.ReasonLines.{lines_start, lines-end-at, lines-turn, lines-all, count_small, value-small}
use Rattle.printing.proofs.reasons.put_letters.Goals as goal

pub loop-i-init : goal.loop-i-init
loop-i-init c = (refl, λ p. lines_start c.args.reason p c.args.out.now c.args.at)

pub put_letter-end-requires : goal.put_letter-end-requires
put_letter-end-requires c = let z = c in
    let l = c.loop-i in
    let p = z.requires.1 in (
      omega (arith, z.requires.0, l.invariant.0, count_small z.args.reason p, lines-end-at z.args.reason p z.args.out.now l.out z.args.at l.end l.i (omega arith) (l.invariant.1 p)),
      omega (arith, value-small z.args.reason p l.i (omega arith)),
    )

pub loop-i-preserved : goal.loop-i-preserved
loop-i-preserved c = let z = c in
    let l = c.loop-i in
    let w = c.put_letter-end in
    (w.auto.out ∙ l.invariant.0, λ p. lines-turn z.args.reason p z.args.out.now l.out w.new.out z.args.at l.end w.result l.i (omega arith) z.requires.0 (l.invariant.1 p) w.ensures.written w.ensures.place)

pub returns : goal.returns
returns c = let z = c in
    let l = c.loop-i in
    record {
      written = λ p. (lines-all z.args.reason p z.args.out.now l.out z.args.at l.end l.i (omega arith) (l.invariant.1 p)).0;
      place = λ p. (lines-all z.args.reason p z.args.out.now l.out z.args.at l.end l.i (omega arith) (l.invariant.1 p)).1;
    }
