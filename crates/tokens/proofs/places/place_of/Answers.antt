use native.Mathlib.Omega.{arith}
use lib.Seq.{length-take-le}
use Rattle.tokens.proofs.LineSteps.{placed-start, placed_end}
use Rattle.tokens.proofs.places.place_of.Goals as goal

pub loop-b-init : goal.loop-b-init
loop-b-init c = placed-start _ _

pub returns : goal.returns
returns c =
    let a = c.args in
    let l = c.loop-b in
    placed_end a.text.now a.n l.b-index l.line l.column (omega (arith, length-take-le a.n a.text.now c.requires)) l.invariant
